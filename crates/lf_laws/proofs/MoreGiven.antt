-- More frozen rows change nothing of what a behaviour sees of its state: no refusal, no result, no read and no answer.
pub mod GivenRows
pub mod ReadsAlike
pub mod RefusalsAlike
pub mod CallsAlike
pub mod CallsStayMore
pub mod MoreWellFormed
