pub mod DraftOf
pub mod HistoryOf
pub mod MappingOf
