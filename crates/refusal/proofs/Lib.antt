pub mod AnswerLaws
pub mod OrderLaws
pub mod JudgedLaws
