-- How the tokens of every script lie: lines and levels, number, order, texts.
pub mod Layouts
pub mod Totals
pub mod Orders
pub mod LineOrders
pub mod Named
