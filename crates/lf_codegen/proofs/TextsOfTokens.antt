-- The texts of a tree are among those that its tokens name.
pub mod TextsAmongTokens
pub mod ExpressionTexts
pub mod StatementTexts
pub mod FrameTexts
pub mod ReadTexts
