-- The steps, by the keys of their words, and how many words they have.
use Rattle.std.specs.Prelude.{ℕ, cond, List, eqb, get_or}
use Prim.Native.Char.{code}
use Rattle.check_commands.specs.declared.steps.Step.{Step}
use Rattle.check_commands.specs.declared.steps.Step.TheVariants.{Assemble, List as list, Simulate, Resume, Show, Picture, Hex, Equal, Numbers}

-- The first letter of its word, or the third of one that begins with s.
abbrev pub key_of : List ℕ → ℕ
key_of word = cond (eqb (get_or word 0 0) (code "s")) (get_or word 2 0) (get_or word 0 0)

-- The step of a key.
unfoldable pub step_of : ℕ → Step
step_of key =
    cond (eqb key (code "a")) Assemble
    (cond (eqb key (code "l")) list
    (cond (eqb key (code "m")) Simulate
    (cond (eqb key (code "r")) Resume
    (cond (eqb key (code "o")) Show
    (cond (eqb key (code "p")) Picture
    (cond (eqb key (code "h")) Hex
    (cond (eqb key (code "e")) Equal Numbers)))))))

-- A step has its own word and what it takes: asm 3 names, list 1, sim 14 and a number, resume 8, show 1, picture 2, hex two words and 2 names, equal 2; any other word stands alone.
abbrev pub words_of : Step → ℕ
words_of Assemble = 4
words_of list = 2
words_of Simulate = 16
words_of Resume = 9
words_of Show = 2
words_of Picture = 3
words_of Hex = 5
words_of Equal = 3
words_of Numbers = 1
