pub mod by_key
pub mod row_queries
pub mod questions
