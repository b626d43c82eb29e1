-- What the steps of the reader promise one another. For the code: who reads definitions needs none of it.
use Rattle.std.specs.Prelude.{ℕ, ◌+◌, ◌*◌, ◌≤◌, ◌≡◌, Bool, cond, ◌&&◌, List, [], ◌∷◌, eqb, ltb, length, get_or, Option, Some, None, is_some, IfSome, Result}
use Prim.Native.Char.{code}
use Rattle.text.specs.Numerals.{digit_value}
use Rattle.text.specs.declared.Outcome.{Outcome}
use Rattle.text.specs.Questions.{accepted, refused, first_no}
use Rattle.text.specs.Lines.{first_line, ends_line}
use Rattle.text.specs.Place.{put}
use Rattle.intel_hex.specs.declared.HexError.{HexError}
use Rattle.intel_hex.specs.declared.record.Found.{Found}
use Rattle.intel_hex.specs.declared.record.Head.{Head}
use Rattle.intel_hex.specs.declared.record.Kind.{Kind}
use Rattle.intel_hex.specs.Record.{pair_byte, line_bytes, data_count, address, kind, data_bytes, is_record}
use Rattle.intel_hex.specs.Reading.{CR, without_cr, record_lines, is_right_end, is_read_type, is_placed, records_outcome, put_records}
use Rattle.intel_hex.specs.Answers.{hex_read_outcome}

-- Every byte that a record can name lies below this address: 255 bytes from 65,535 on, in whole words.
abbrev pub byte_limit : ℕ
byte_limit = 65792

-- The records of a text are read into bytes, of which a memory has `room`. Where one is refused the bytes are of no use.
pub record RecordsRead (room : ℕ) (text before : List ℕ) (r : Result (Unit {0}) HexError) (after : List ℕ) : Type 0 where
  pub answer : hex_read_outcome r ≡ records_outcome room (record_lines text)
  pub same_length : length after ≡ length before
  pub bytes : (hex_read_outcome r).number ≡ 0 → after ≡ put_records before (record_lines text)

-- The first line of a text, without its CR.
abbrev pub first_record : List ℕ → List ℕ
first_record text = without_cr (first_line text)

-- The pair at a place of a text: whether it is two digits, and what it stands for.
abbrev pub is_pair : List ℕ → (at : ℕ) → Bool
is_pair s at = ltb (digit_value (get_or s at 0)) 16 && ltb (digit_value (get_or s (at + 1) 0)) 16

abbrev pub pair_value : List ℕ → (at : ℕ) → ℕ
pair_value s at = pair_byte (get_or s at 0) (get_or s (at + 1) 0)

-- Before a record's data stand `:` and four pairs.
abbrev pub is_head : List ℕ → Bool
is_head s = eqb (get_or s 0 0) (code ":") && is_pair s 1 && is_pair s 3 && is_pair s 5 && is_pair s 7

-- The type that a byte stands for, and the byte of a type, 2 for every other.
abbrev pub kind_of : ℕ → Kind
kind_of t = cond (eqb t 0) Kind.Data (cond (eqb t 1) Kind.End Kind.Other)

abbrev pub kind_byte : Kind → ℕ
kind_byte Kind.Data = 0
kind_byte Kind.End = 1
kind_byte Kind.Other = 2

-- What they say.
pub record SaysHead (text : List ℕ) (h : Head) : Type 0 where
  pub count-is : h.count ≡ pair_value text 1
  pub address_is : h.address ≡ pair_value text 3 * 256 + pair_value text 5
  pub kind-is : h.kind ≡ kind_of (pair_value text 7)
  pub sum_is : h.sum ≡ pair_value text 1 + pair_value text 3 + pair_value text 5 + pair_value text 7

-- These were read.
pub record HeadRead (text : List ℕ) (r : Option Head) : Type 0 where
  pub form : is_some r ≡ is_head text
  pub says : IfSome r (SaysHead text)

-- Where the line ends whose record ends at the place `stop`, if it does not go on.
abbrev pub record_end : List ℕ → (stop : ℕ) → Option ℕ
record_end text stop = cond (ends_line text stop) (Some stop) (cond (eqb (get_or text stop 0) CR && ends_line text (stop + 1)) (Some (stop + 1)) None)

-- What the record on the first line of a text says; its data are put into bytes.
pub record SaysRecord (text before after : List ℕ) (f : Found) : Type 0 where
  pub within : f.address + f.count ≤ byte_limit
  pub line-end : f.end ≡ length (first_line text)
  pub count-is : f.count ≡ data_count (line_bytes (first_record text))
  pub address_is : f.address ≡ address (line_bytes (first_record text))
  pub kind-is : f.kind ≡ kind_of (kind (line_bytes (first_record text)))
  pub bytes : after ≡ put before (address (line_bytes (first_record text))) (data_bytes (line_bytes (first_record text)))

-- What was found at the front of a text: whether a record stands on its first line, and what it says then.
pub record RecordFound (text before : List ℕ) (r : Option Found) (after : List ℕ) : Type 0 where
  pub same_length : length after ≡ length before
  pub record_is : is_some r ≡ is_record (first_record text)
  pub says : IfSome r (SaysRecord text before after)

-- The questions asked of what was found, as numbers.
abbrev pub found_outcome : (room free : ℕ) (is_last : Bool) → Option Found → (line : ℕ) → Outcome
found_outcome room free is_last None line = refused 17 line
found_outcome room free is_last (Some f) line =
    first_no ((17, is_right_end is_last (kind_byte f.kind) f.count) ∷ (18, is_read_type (kind_byte f.kind)) ∷ (19, is_placed room free f.address f.count) ∷ []) line (accepted 0)
