pub mod AskLaws
pub mod RowLaws
