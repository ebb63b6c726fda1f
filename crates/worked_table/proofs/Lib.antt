-- The worked table, as one statement.
pub mod Table
