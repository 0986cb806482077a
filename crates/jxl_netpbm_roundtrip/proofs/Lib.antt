pub mod WordReading
pub mod PlainReading
pub mod RasterReading
pub mod NumberSamples
pub mod PnmFiles
pub mod PfmFiles
pub mod PamFiles
pub mod Written
