pub mod HistoryColumns
