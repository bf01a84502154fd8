pub mod FoldLaws
pub mod SaidLaws
