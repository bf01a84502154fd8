-- What holds of lines that are put field by field, for our own proofs.
pub mod FieldLaws
