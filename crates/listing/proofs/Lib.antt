-- What is promised of the output and that an edit of a definition is to break: it stands here and not in specs/.
pub mod promises
