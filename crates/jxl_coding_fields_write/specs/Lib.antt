pub mod CountWidths
