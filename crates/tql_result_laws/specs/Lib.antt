pub mod Csv
pub mod Json
pub mod Jsonl
pub mod ReadBack
pub mod CsvReadBack
pub mod JsonReadBack
pub mod JsonlReadBack
