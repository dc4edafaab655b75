-- The bytes that report how long a frame is.
use Rattle.std.specs.Prelude.{ℕ, ◌<◌, ◌^◌, List}
use Rattle.std.specs.Int.{Width, w8, w16, w32, w64, to_be_bytes, to_le_bytes, from_be_bytes, from_le_bytes}
use Rattle.piper_lines.specs.declared.header.ByteOrder.{ByteOrder}
use Rattle.piper_lines.specs.declared.header.ByteOrder.TheVariants.{BigEndian, LittleEndian}
use Rattle.piper_lines.specs.declared.header.FrameHeader.{FrameHeader}
use Rattle.piper_lines.specs.declared.header.FrameHeader.TheVariants.{OneByte, TwoBytes, FourBytes, EightBytes}

-- where none is chosen: four bytes, the most significant first
abbrev pub usual_header : FrameHeader
usual_header = FourBytes BigEndian

-- how many bytes it has
abbrev pub header_size : FrameHeader → ℕ
header_size OneByte = 1
header_size (TwoBytes order) = 2
header_size (FourBytes order) = 4
header_size (EightBytes order) = 8

-- a length that these bytes can report
abbrev pub CanEncode : FrameHeader → ℕ → Type 0
CanEncode OneByte n = n < 2 ^ 8
CanEncode (TwoBytes order) n = n < 2 ^ 16
CanEncode (FourBytes order) n = n < 2 ^ 32
CanEncode (EightBytes order) n = n < 2 ^ 64

-- the order of its bytes; one alone is in either
abbrev pub order_of : FrameHeader → ByteOrder
order_of OneByte = BigEndian
order_of (TwoBytes order) = order
order_of (FourBytes order) = order
order_of (EightBytes order) = order

-- a number as bytes in this order
abbrev pub ordered_bytes : ByteOrder → Width → ℕ → List ℕ
ordered_bytes BigEndian w n = to_be_bytes w n
ordered_bytes LittleEndian w n = to_le_bytes w n

-- the number that bytes in this order make
abbrev pub ordered_number : ByteOrder → Width → List ℕ → ℕ
ordered_number BigEndian w bytes = from_be_bytes w bytes
ordered_number LittleEndian w bytes = from_le_bytes w bytes

-- a length as the bytes of a header
abbrev pub length_bytes : FrameHeader → ℕ → List ℕ
length_bytes OneByte n = to_be_bytes w8 n
length_bytes (TwoBytes order) n = ordered_bytes order w16 n
length_bytes (FourBytes order) n = ordered_bytes order w32 n
length_bytes (EightBytes order) n = ordered_bytes order w64 n

-- the length that the bytes of a header give
abbrev pub encoded_length : FrameHeader → List ℕ → ℕ
encoded_length OneByte bytes = from_be_bytes w8 bytes
encoded_length (TwoBytes order) bytes = ordered_number order w16 bytes
encoded_length (FourBytes order) bytes = ordered_number order w32 bytes
encoded_length (EightBytes order) bytes = ordered_number order w64 bytes
