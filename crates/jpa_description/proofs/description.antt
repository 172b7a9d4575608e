mod Examples
pub mod SameName
