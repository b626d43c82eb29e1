-- What a status means, in words.
use Rattle.std.specs.Prelude.{ℕ, List, [], ◌∷◌, get_or}
use Rattle.text.specs.Bytes.{bytes}

-- The status is the place in this list.
unfoldable pub statuses : List (List ℕ)
statuses =
    -- "Status: 0 running"
    bytes "running"
    -- "1 halted"
    ∷ bytes "halted"
    -- "2 opcode above 21"
    ∷ bytes "the opcode is above 21"
    -- "3 data address above 4095"
    ∷ bytes "the data address is above 4095"
    -- "4 I/O number not listed"
    ∷ bytes "the I/O register is not listed"
    -- "5 diskbuffer above 3968 at a disk command"
    ∷ bytes "diskbuffer is above 3968 at a disk command"
    ∷ []

unfoldable pub status_words : ℕ → List ℕ
unfolding statuses
status_words n = get_or statuses n []
