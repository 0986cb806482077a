-- Why a PNG file is read as no picture, in words.
use Rattle.std.specs.Prelude.{ℕ, List, codes}
use Rattle.jxl_deflate.specs.declared.error.InflateError.{InflateError}
use Rattle.jxl_deflate.specs.declared.error.InflateError.TheVariants as streams
use Rattle.jxl_deflate.specs.declared.zlib.ZlibError.{ZlibError}
use Rattle.jxl_deflate.specs.declared.zlib.ZlibError.TheVariants as zlib
use Rattle.jxl_png.specs.declared.error.PngError.{PngError}
use Rattle.jxl_png.specs.declared.error.PngError.TheVariants as files
use Rattle.jxl_png_read.specs.declared.error.ReadError.{ReadError}
use Rattle.jxl_png_read.specs.declared.error.ReadError.TheVariants as errors

-- what is wrong with the chunks, or with the rows of the image
unfoldable pub chunk_text : PngError → List ℕ
chunk_text files.Signature = codes "not a PNG file"
chunk_text files.Truncated = codes "truncated"
chunk_text files.ChunkLength = codes "invalid length of a chunk"
chunk_text files.ChunkType = codes "invalid type of a chunk"
chunk_text files.Crc = codes "wrong CRC"
chunk_text files.Order = codes "chunks out of order"
chunk_text files.UnknownChunk = codes "unknown critical chunk"
chunk_text files.WrongLength = codes "wrong length of a chunk"
chunk_text files.Size = codes "invalid size"
chunk_text files.ColourType = codes "invalid colour type or bit depth"
chunk_text files.Method = codes "unknown method"
chunk_text files.Palette = codes "a palette that is not allowed"
chunk_text files.Transparency = codes "transparency that is not allowed"
chunk_text files.TooShort = codes "too little data"
chunk_text files.Filter = codes "unknown filter type"
chunk_text files.Index = codes "index above the palette"
chunk_text files.OutOfMemory = codes "out of memory"

-- what is wrong with a deflate stream
unfoldable pub stream_text : InflateError → List ℕ
stream_text streams.InputTooLong = codes "an input of 2^61 bytes or more"
stream_text streams.Truncated = codes "truncated deflate stream"
stream_text streams.ReservedBlockType = codes "reserved block type"
stream_text streams.StoredLengths = codes "stored block lengths that do not match"
stream_text streams.TooManyLengthCodes = codes "more than 286 literal and length codes"
stream_text streams.TooManyDistanceCodes = codes "more than 30 distance codes"
stream_text (streams.Oversubscribed alphabet) = codes "over-subscribed code"
stream_text (streams.Incomplete alphabet) = codes "incomplete code"
stream_text streams.RepeatWithoutLength = codes "repeat without a previous code length"
stream_text streams.LengthsOverrun = codes "code lengths past the last code"
stream_text streams.NoEndOfBlock = codes "no codeword for the end of the block"
stream_text (streams.InvalidSymbol alphabet) = codes "invalid symbol"
stream_text streams.BeyondWindow = codes "match distance beyond the window"
stream_text streams.DistanceTooFar = codes "match distance before the start of the text"
stream_text streams.TooLarge = codes "text longer than the limit"
stream_text streams.OutOfMemory = codes "out of memory"

-- what is wrong with the compressed data of the image
unfoldable pub zlib_text : ZlibError → List ℕ
zlib_text zlib.TruncatedHeader = codes "truncated zlib header"
zlib_text zlib.HeaderCheck = codes "zlib header check failed"
zlib_text zlib.CompressionMethod = codes "unknown compression method"
zlib_text zlib.WindowSize = codes "window of more than 32768 bytes"
zlib_text zlib.PresetDictionary = codes "preset dictionary"
zlib_text (zlib.Inflate error) = stream_text error
zlib_text zlib.TruncatedChecksum = codes "truncated checksum"
zlib_text zlib.Checksum = codes "wrong checksum"

-- why a PNG file is read as no picture
unfoldable pub png_text : ReadError → List ℕ
png_text (errors.Png error) = chunk_text error
png_text (errors.Zlib error) = zlib_text error
png_text errors.Limits = codes "above the limits"
png_text errors.OutOfMemory = codes "out of memory"
