-- What is proved of each rule of the grammar: the properties that all rules have, how they pass on where rules are put together
-- (one after another, by choice, any number of times), each rule of an expression, a statement, and a script, and the loops in code.
pub mod RuleProperties
pub mod OneToken
pub mod Repetition
pub mod TokenKinds
pub mod FormsHaveTokens
pub mod ExpressionRules
pub mod ExpressionLevels
pub mod LeadingNames
pub mod StatementRules
pub mod ScriptRules
pub mod LoopSteps
pub mod OneLevelLess
