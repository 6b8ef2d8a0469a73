mod Due
mod RowSize
mod RowText
pub mod TurnsByRules
pub mod Whole
pub mod FileOfPlays
pub mod FirstPassingOfPlays
pub mod VerdictsOfPlays
pub mod PrintedEvaluationsOfPlays
pub mod HidingOfPlays
pub mod KeyLifeOfPlays
pub mod RuleOfPlays
pub mod EndOfPlays
pub mod OrdinalsOfPlays
pub mod RefusalsOfPlays
pub mod WholeFile
