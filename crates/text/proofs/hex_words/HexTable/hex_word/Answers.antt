use Rattle.std.proofs.Common.{ℕ, ◌+◌, ◌≡◌, ◌∙◌, ap, arith}
use Rattle.text.specs.Numerals.{low_bytes}
use Rattle.text.proofs.HexWordLaws.{paired, pairs_sum, paired_lt, paired-bytes}
use Rattle.text.proofs.hex_words.HexTable.hex_word.Goals as goal

-- The four entries are those of the word.
sum : (c : goal.After-pair-d) → c.pair-a.result + c.pair-b.result + c.pair-c.result + c.pair-d.result ≡ paired 4 c.args.x
sum c = pairs_sum c.args.x _ _ _ _ (omega arith) c.pair-a.ensures c.pair-b.ensures c.pair-c.ensures c.pair-d.ensures

pub join-requires : goal.join-requires
join-requires c = rw (sum c) (paired_lt 4 c.args.x)

pub returns : goal.returns
returns c =
    ap (λ (v : ℕ). low_bytes 8 v) (c.join.ensures ∙ pairs_sum c.args.x _ _ _ _ (omega arith) c.pair-a.ensures c.pair-b.ensures c.pair-c.ensures c.pair-d.ensures)
    ∙ paired-bytes 4 c.args.x
