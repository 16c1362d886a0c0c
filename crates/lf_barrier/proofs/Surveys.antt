-- What is visited before a write into a region, and what that says of the write.
pub mod SurveySteps
pub mod SurveyRows
pub mod JudgedSurvey
