-- The second pass over the lines of a text. Assumes nothing.
use Rattle.std.specs.Prelude.{Ok, Err}
use Rattle.std.specs.Int.{from_bool}
use Prim.Native.Nat.{ℕ, suc, ◌+◌, ◌-◌, ◌^◌, ◌≤◌, ◌<◌}
use mathlib.Core.Path.{◌≡◌, refl, sym, ◌∙◌, ap}
use mathlib.Core.Bool.{Bool, true, false, cond, not, ◌||◌}
use mathlib.Core.List.{List, [], ◌∷◌, ◌++◌, append-nil, append_assoc}
use native.Mathlib.Omega.{arith}
use lib.Dec.{leb, ltb}
use lib.ListN.{length, set, take, drop, replicate, length-append, length-replicate, drop_of_length-le, length-set}
use lib.Seq.{take_at, set_at, append_snoc}
use borrow.Author.Tests.{leb-true, ltb-true, not-true}
use Rattle.text.specs.declared.Outcome.{Outcome}
use Rattle.text.specs.Questions.{accepted, refused, first_no, first_bad}
use Rattle.text.specs.Lines.{lines, first_line}
use Rattle.text.specs.Ranges.{Below}
use Rattle.text.proofs.Truth.{and_left, and_right}
use Rattle.text.proofs.LineLaws.{lines_at_lem}
use Rattle.text.proofs.RangeLaws.{below_zeros, holds_after}
use Rattle.files.specs.Sizes.{image_words, data_words}
use Rattle.source.specs.Numbers.{number}
use Rattle.source.specs.Lookup.{is_among}
use Rattle.symbols.proofs.NameLaws.{length-names}
use Rattle.symbols.proofs.DistinctLaws.{Distinct, distinct_none, distinct_more}
use Rattle.lines.specs.declared.Form.{Form}
use Rattle.lines.specs.Line.{form_of, is_right, has_label, has_code, has_word, part, label_of}
use Rattle.lines.specs.Ranges.{modulo}
use Rattle.statements.specs.declared.Statement.{Statement}
use Rattle.labels.specs.Text.{code_count, labels, are_right}
use Rattle.statements.specs.Questions.{asked_if, last_address, line_questions}
use Rattle.labels.specs.Limits.{most_labels}
use Rattle.statements.specs.declared.LineError.{LineError}
use Rattle.statements.specs.declared.LineError.TheVariants.{BadBytes, WrongForm, UnknownName, OutOfRange, DefinedBefore, Undefined, NoPlace}
use Rattle.statements.specs.Errors.{number_of}
use Rattle.assembler.specs.Answers.{refusal_of, at_line}
use Rattle.assembler.specs.Questions.{text_outcome}
use Rattle.statements.specs.Encoding.{encoded}
use Rattle.assembler.specs.Memories.{code_of, assembled_image, stored, assembled_data}
use Rattle.labels.specs.Tables.{LabelTable}
use Rattle.statements.specs.Reading.{Usual, StatementRead, After}
use Rattle.assembler.specs.Passes.{Translated}
use Rattle.labels.proofs.TextLaws.{labels_append, code-append, right-append}
use Rattle.assembler.proofs.MemoryLaws.{words_append, stored-append, length-words}
use Rattle.statements.proofs.QuestionLaws.{line_passes, line_fails, GoodLine, passed}

-- ---- small facts

-- The next word after so many is stored in the place of the first zero.
next_word : (code : List ℕ) (n x : ℕ) → length code ≡ n → n < image_words → set (code ++ replicate (image_words - n) 0) n x ≡ (code ++ (x ∷ [])) ++ replicate (image_words - (n + 1)) 0
next_word code n x e h =
    let one : image_words - n ≡ suc (image_words - (n + 1)) = omega arith in
    rw one (set_at code 0 (replicate (image_words - (n + 1)) 0) x n e ∙ sym (append_snoc code x (replicate (image_words - (n + 1)) 0)))

-- One more is counted, or none.
pub counted_on : (b : Bool) (n m : ℕ) → m ≡ n + from_bool b → m ≡ cond b (n + 1) n
counted_on true n m e = e
counted_on false n m e = omega arith

-- A list in which at most one number is stored keeps its length.
size_kept : (b : Bool) (l after : List ℕ) (i x : ℕ) → after ≡ cond b (set l i x) l → length after ≡ length l
size_kept true l after i x e = ap length e ∙ length-set l i x
size_kept false l after i x e = ap length e

-- The error of a line tells its question and the line.
line_told : (error : LineError) (line : ℕ) → refusal_of (at_line error line) ≡ refused (number_of error) line
line_told BadBytes line = refl
line_told WrongForm line = refl
line_told UnknownName line = refl
line_told OutOfRange line = refl
line_told DefinedBefore line = refl
line_told Undefined line = refl
line_told NoPlace line = refl

asked_no : (error : LineError) → number_of error ≡ 0 → ⊥
asked_no BadBytes e = omega arith
asked_no WrongForm e = omega arith
asked_no UnknownName e = omega arith
asked_no OutOfRange e = omega arith
asked_no DefinedBefore e = omega arith
asked_no Undefined e = omega arith
asked_no NoPlace e = omega arith

no_line : (error : LineError) (line : ℕ) → refusal_of (at_line error line) ≡ accepted 0 → ⊥
no_line error line e = asked_no error (sym (ap (λ (t : Outcome). t.number) (line_told error line)) ∙ ap (λ (t : Outcome). t.number) e)

-- ---- the second pass

-- The lines before p have passed: i lines, with n instructions and m labels; and this is what they store.
pub record Translating (source words memory : List ℕ) (p i n m : ℕ) : Type 0 where
  pub done : List (List ℕ)
  pub split : lines source ≡ done ++ lines (drop p source)
  pub number : length done ≡ i
  pub code : code_count done ≡ n
  pub count : length (labels done) ≡ m
  pub right : are_right done ≡ true
  pub outcome : text_outcome source ≡ first_bad (λ k line. line_questions (lines source) (take k (lines source)) line) i (lines (drop p source)) (accepted 0)
  pub writes : Usual (lines source) → words ≡ code_of (lines source) done ++ replicate (image_words - n) 0
  pub stores : memory ≡ stored (replicate data_words 0) done
  pub fits : Below (2 ^ 48) words
  pub room : length words ≡ image_words
  pub memory-room : length memory ≡ data_words
  pub small : n ≤ image_words
  pub few : m ≤ most_labels
  pub distinct : Distinct (labels done)

pub none_translated : (source words memory : List ℕ) → words ≡ replicate image_words 0 → memory ≡ replicate data_words 0 → Translating source words memory 0 0 0 0
unfolding code_count labels are_right code_of stored text_outcome
none_translated source words memory w d =
    record {
      done = [];
      split = refl;
      number = refl;
      code = refl;
      count = refl;
      right = refl;
      outcome = refl;
      writes = λ u. w;
      stores = d;
      fits = rw w (below_zeros (2 ^ 48) (omega arith) image_words);
      room = ap length w ∙ length-replicate {A = ℕ} image_words 0;
      memory-room = ap length d ∙ length-replicate {A = ℕ} data_words 0;
      small = omega arith;
      few = omega arith;
      distinct = distinct_none;
    }

module _ {source words memory : List ℕ} {p i n m : ℕ} (d : Translating source words memory p i n m) where
  labels_split : labels (lines source) ≡ labels d.done ++ labels (lines (drop p source))
  labels_split = ap labels d.split ∙ labels_append d.done (lines (drop p source))

  -- The lines before p are the first of the text.
  pub after-done : After (lines source) d.done n m
  after-done =
      let size = ap length labels_split ∙ length-append (labels d.done) (labels (lines (drop p source))) in
      let count = d.count in
      record {
        code = d.code;
        number = count;
        first = sym (ap (take m) labels_split ∙ take_at (labels d.done) (labels (lines (drop p source))) m count);
        within = omega arith;
      }

  pub fewer : {table values : List ℕ} {count : ℕ} → LabelTable source (lines source) table values count → m ≤ count
  fewer {table} {values} {count} t = let size = sym (ap length t.names) ∙ length-names source table count in let h = after-done.within in omega arith

  -- All lines have passed.
  pub all_translated : length source ≤ p → Translated source (Ok tt) words memory
  unfolding lines first_bad assembled_image assembled_data
  all_translated h =
      let none : drop p source ≡ [] = drop_of_length-le source h in
      let whole : lines source ≡ d.done = d.split ∙ ap (λ (s : List ℕ). d.done ++ lines s) none ∙ append-nil d.done in
      let usual : Usual (lines source) = rw whole (record { right = d.right; few = rw d.count d.few; distinct = d.distinct }) in
      let size : length (code_of (lines source) d.done) ≡ n = length-words (lines source) d.done ∙ d.code in
      record {
        answer = sym (d.outcome ∙ rw none);
        code = λ q. d.writes usual ∙ ap (λ (k : ℕ). code_of (lines source) d.done ++ replicate (image_words - k) 0) (sym size) ∙ ap (λ (x : List (List ℕ)). code_of (lines source) x ++ replicate (image_words - length (code_of (lines source) x)) 0) (sym whole);
        stores = λ q. d.stores ∙ ap (stored (replicate data_words 0)) (sym whole);
        high_bits = d.fits;
        sizes = (d.room, d.memory-room);
      }

  -- One line more.
  module _ (inside : p < length source) (e : ℕ) (is : e ≡ p + length (first_line (drop p source))) where
    abbrev line : List ℕ
    line = take (e - p) (drop p source)

    here : lines (drop p source) ≡ line ∷ lines (drop (e + 1) source)
    here = lines_at_lem source p e inside is

    before : take i (lines source) ≡ d.done
    before = ap (take i) d.split ∙ take_at d.done (lines (drop p source)) i d.number

    outcome-here : text_outcome source ≡ first_no (line_questions (lines source) d.done line) (i + 1) (first_bad (λ k l. line_questions (lines source) (take k (lines source)) l) (i + 1) (lines (drop (e + 1) source)) (accepted 0))
    unfolding first_bad
    outcome-here = d.outcome ∙ rw (here, before)

    module _ (q : ℕ) (asks : q ≡ (first_no (line_questions (lines source) d.done line) 0 (accepted 0)).number) where
      -- It is refused.
      pub one_bad : (error : LineError) → q ≡ number_of error → Translated source (Err (at_line error (i + 1))) words memory
      one_bad error is =
          let some : (first_no (line_questions (lines source) d.done line) 0 (accepted 0)).number ≡ 0 → ⊥ = λ x. asked_no error (sym is ∙ asks ∙ x) in
          record {
            answer = sym (outcome-here ∙ line_fails (lines source) d.done line (i + 1) _ some ∙ ap (λ (k : ℕ). refused k (i + 1)) (sym asks ∙ is) ∙ sym (line_told error (i + 1)));
            code = λ x. absurd (no_line error (i + 1) x);
            stores = λ x. absurd (no_line error (i + 1) x);
            high_bits = d.fits;
            sizes = (d.room, d.memory-room);
          }

      module _ (q0 : q ≡ 0) (f : Form) (form : f ≡ form_of line) (s : Statement) (says : StatementRead (lines source) line f s) where
        yes_all : GoodLine (lines source) d.done line f
        yes_all = passed (lines source) d.done line f form (sym asks ∙ q0)

        abbrev next : List (List ℕ)
        next = d.done ++ (line ∷ [])

        -- An instruction has a place.
        pub code-placed : has_code f ≡ true → n < image_words
        code-placed h =
            let r = and_left (asked_if (has_code f || has_label f) (leb (code_count d.done) last_address)) (asked_if (has_label f) (ltb (length (labels d.done)) most_labels)) yes_all.placed in
            let less : leb (code_count d.done) last_address ≡ true = rw h at r in
            let most = leb-true (code_count d.done) last_address less in
            let c = d.code in
            omega arith

        label-placed : has_label f ≡ true → m < most_labels
        label-placed h =
            let r = and_right (asked_if (has_code f || has_label f) (leb (code_count d.done) last_address)) (asked_if (has_label f) (ltb (length (labels d.done)) most_labels)) yes_all.placed in
            let less : ltb (length (labels d.done)) most_labels ≡ true = rw h at r in
            let most = ltb-true (length (labels d.done)) most_labels less in
            let c = d.count in
            omega arith

        -- What it stores.
        next-words : (words' : List ℕ) → words' ≡ cond (has_code f) (set words n s.word) words → (n' : ℕ) → n' ≡ cond (has_code f) (n + 1) n → Usual (lines source)
            → words' ≡ code_of (lines source) next ++ replicate (image_words - n') 0
        unfolding code_of
        next-words words' w n' c u =
            w
            ∙ go (has_code f) refl c
            ∙ ap (λ (x : List ℕ). x ++ replicate (image_words - n') 0) (sym (words_append (lines source) d.done (line ∷ []) ∙ ap (λ (g : Form). code_of (lines source) d.done ++ cond (has_code g) (encoded (lines source) line ∷ []) []) (sym form)))
          where
            go : (b : Bool) → has_code f ≡ b → n' ≡ cond b (n + 1) n → cond b (set words n s.word) words ≡ (code_of (lines source) d.done ++ cond (has_code f) (encoded (lines source) line ∷ []) []) ++ replicate (image_words - n') 0
            go true h k =
                let known : s.known ≡ true = says.known ∙ yes_all.known in
                let defined : s.defined ≡ true = says.defined ∙ yes_all.defined in
                rw (h, k)
                (ap (λ (x : List ℕ). set x n s.word) (d.writes u)
                ∙ next_word (code_of (lines source) d.done) n s.word (length-words (lines source) d.done ∙ d.code) (code-placed h)
                ∙ ap (λ (x : ℕ). (code_of (lines source) d.done ++ (x ∷ [])) ++ replicate (image_words - (n + 1)) 0) (says.word h known defined u))
            go false h k = rw (h, k, append-nil (code_of (lines source) d.done)) (d.writes u)

        next-stores : (memory' : List ℕ) → memory' ≡ cond (has_word f) (set memory s.address s.value) memory → memory' ≡ stored (replicate data_words 0) next
        unfolding stored
        next-stores memory' w =
            w
            ∙ go (has_word f) refl
            ∙ ap (λ (g : Form). cond (has_word g) (set memory (modulo 4096 (number (part 1 line))) (modulo (2 ^ 32) (number (part 2 line)))) memory) form
            ∙ ap (λ (x : List ℕ). stored x (line ∷ [])) d.stores
            ∙ sym (stored-append (replicate data_words 0) d.done (line ∷ []))
          where
            go : (b : Bool) → has_word f ≡ b → cond b (set memory s.address s.value) memory ≡ cond (has_word f) (set memory (modulo 4096 (number (part 1 line))) (modulo (2 ^ 32) (number (part 2 line)))) memory
            go true h = rw (h, says.address h, says.value h)
            go false h = rw h

        next-right : are_right next ≡ true
        unfolding are_right
        next-right = right-append d.done (line ∷ []) ∙ rw (d.right, sym (ap is_right form) ∙ yes_all.right)

        next-distinct : Distinct (labels next)
        unfolding labels
        next-distinct = rw (labels_append d.done (line ∷ []) ∙ ap (λ (g : Form). labels d.done ++ cond (has_label g) (label_of line ∷ []) []) (sym form)) (go (has_label f) refl)
          where
            go : (b : Bool) → has_label f ≡ b → Distinct (labels d.done ++ cond b (label_of line ∷ []) [])
            go true h =
                let new : not (is_among (labels d.done) (label_of line)) ≡ true = rw h at yes_all.fresh in
                distinct_more (labels d.done) (label_of line) d.distinct (not-true (is_among (labels d.done) (label_of line)) new)
            go false h = rw (append-nil (labels d.done)) d.distinct

        next-code : (n' : ℕ) → n' ≡ cond (has_code f) (n + 1) n → code_count next ≡ n'
        unfolding code_count
        next-code n' c = code-append d.done (line ∷ []) ∙ ap (λ (g : Form). code_count d.done + cond (has_code g) 1 0) (sym form) ∙ sum (has_code f) ∙ sym c
          where
            sum : (b : Bool) → code_count d.done + cond b 1 0 ≡ cond b (n + 1) n
            sum true = let k = d.code in omega arith
            sum false = let k = d.code in omega arith

        next-count : (m' : ℕ) → m' ≡ cond (has_label f) (m + 1) m → length (labels next) ≡ m'
        unfolding labels
        next-count m' l =
            ap length (labels_append d.done (line ∷ []))
            ∙ length-append (labels d.done) (labels (line ∷ []))
            ∙ ap (λ (g : Form). length (labels d.done) + length (cond (has_label g) (label_of line ∷ []) [])) (sym form)
            ∙ sum (has_label f)
            ∙ sym l
          where
            sum : (b : Bool) → length (labels d.done) + length (cond b (label_of line ∷ []) []) ≡ cond b (m + 1) m
            sum true = let k = d.count in omega arith
            sum false = let k = d.count in omega arith

        pub one_translated : (words' memory' : List ℕ) (n' m' : ℕ) → words' ≡ cond (has_code f) (set words n s.word) words → memory' ≡ cond (has_word f) (set memory s.address s.value) memory
            → n' ≡ cond (has_code f) (n + 1) n → m' ≡ cond (has_label f) (m + 1) m → Translating source words' memory' (e + 1) (i + 1) n' m'
        one_translated words' memory' n' m' w v c l =
            record {
              done = next;
              split = d.split ∙ ap (λ (x : List (List ℕ)). d.done ++ x) here ∙ sym (append_assoc d.done (line ∷ []) (lines (drop (e + 1) source)));
              number = length-append d.done (line ∷ []) ∙ ap (λ (k : ℕ). k + 1) d.number;
              code = next-code n' c;
              count = next-count m' l;
              right = next-right;
              outcome = outcome-here ∙ line_passes (lines source) d.done line (i + 1) _ (sym asks ∙ q0);
              writes = next-words words' w n' c;
              stores = next-stores memory' v;
              fits = rw w (below_one (has_code f));
              room = size_kept (has_code f) words words' n s.word w ∙ d.room;
              memory-room = size_kept (has_word f) memory memory' s.address s.value v ∙ d.memory-room;
              small = code-small (has_code f) refl c;
              few = label-few (has_label f) refl l;
              distinct = next-distinct;
            }
          where
            below_one : (b : Bool) → Below (2 ^ 48) (cond b (set words n s.word) words)
            below_one true = holds_after words n s.word (λ k v. v < 2 ^ 48) d.fits says.word_fits
            below_one false = d.fits

            code-small : (b : Bool) → has_code f ≡ b → n' ≡ cond b (n + 1) n → n' ≤ image_words
            code-small true h k = let less = code-placed h in omega arith
            code-small false h k = let less = d.small in omega arith

            label-few : (b : Bool) → has_label f ≡ b → m' ≡ cond b (m + 1) m → m' ≤ most_labels
            label-few true h k = let less = label-placed h in omega arith
            label-few false h k = let less = d.few in omega arith
