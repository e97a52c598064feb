pub mod ChangeLaws
pub mod ColumnLaws
pub mod ConditionFronts
pub mod ConditionLaws
pub mod ConditionSound
pub mod ConstraintLaws
pub mod CreateLaws
pub mod Ends
pub mod ExpressionLaws
pub mod FirstTokens
pub mod FromLaws
pub mod Fronts
pub mod Lengths
pub mod Levels
pub mod QueryLaws
pub mod StatementLaws
pub mod Steps
pub mod TextLaws
pub mod WordLaws
pub mod TextReading
pub mod RunReading
mod Unfolded
mod WorkedScripts
