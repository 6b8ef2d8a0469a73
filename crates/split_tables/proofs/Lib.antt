pub mod TestLaws
pub mod SetTables
pub mod Passing
