pub mod Skips
pub mod Tools
pub mod Calls
pub mod Behind
pub mod PartsComplete
pub mod TestedComplete
pub mod WhensComplete
pub mod ValuesComplete
pub mod PartsSound
pub mod TestedSound
pub mod WhensSound
pub mod ValuesSound
pub mod TestsSound
pub mod CondSound
pub mod StatementsSound
pub mod TestsComplete
pub mod CondComplete
pub mod StatementsComplete
pub mod One
pub mod LexingLaws
pub mod NestingLaws
pub mod Queries
pub mod Words
mod Samples
mod CallSamples
mod KeySamples
mod ListSamples
mod RowSamples
mod CaseSamples
