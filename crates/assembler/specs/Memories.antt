-- What a good text gives: the image and the data memory.
use Rattle.std.specs.Prelude.{ℕ, ◌-◌, ◌^◌, cond, List, [], ◌∷◌, ◌++◌, length, set, replicate}
use Rattle.text.specs.Lines.{lines}
use Rattle.files.specs.Sizes.{image_words, data_words}
use Rattle.source.specs.Numbers.{number}
use Rattle.lines.specs.Line.{form_of, has_code, has_word, part}
use Rattle.lines.specs.Ranges.{modulo}
use Rattle.statements.specs.Encoding.{encoded}

-- The words of lines, in order.
unfoldable pub code_of : (all ls : List (List ℕ)) → List ℕ
code_of all [] = []
code_of all (l ∷ ls) = cond (has_code (form_of l)) (encoded all l ∷ code_of all ls) (code_of all ls)

-- The image: the instructions, and zeros.
unfoldable pub assembled_image : List ℕ → List ℕ
assembled_image source =
    let code = code_of (lines source) (lines source) in
    code ++ replicate (image_words - length code) 0

-- The data memory: "the later .word of one address wins; the rest is zero."
unfoldable pub stored : List ℕ → List (List ℕ) → List ℕ
stored memory [] = memory
stored memory (l ∷ ls) =
    stored (cond (has_word (form_of l)) (set memory (modulo 4096 (number (part 1 l))) (modulo (2 ^ 32) (number (part 2 l)))) memory) ls

unfoldable pub assembled_data : List ℕ → List ℕ
assembled_data source = stored (replicate data_words 0) (lines source)
