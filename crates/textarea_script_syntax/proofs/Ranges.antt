-- The ranges that a text names, one after another.
use Rattle.std.proofs.Common.{arith, ◌≡◌, ℕ, ◌+◌, ◌<◌, Bool, true, false, List, [], ◌∷◌, Option, Some, None, length, option_map, if◌then◌else◌, refl, ap, ◌∙◌, subst, not}
use Rattle.std.specs.List.{after_first, before_first, onto_first, position_or_len, slice_split}
use Rattle.std.specs.Option.{option_zip}
use Rattle.std.proofs.lemmas.List.Splits.{slice_split_first}
use Rattle.std.proofs.lemmas.Bool.Decides.{nat_tests}
use Rattle.textarea_data.specs.declared.range.AtomicRange.{AtomicRange}
use Rattle.textarea_script_syntax.specs.Arguments.{has_space, is_separator, split_first}
use Rattle.textarea_script_syntax.specs.Ranges.{range, ranges, ranges_of_words}

abbrev words : List ℕ → List (List ℕ)
words text = slice_split (λ byte. is_separator byte) text

one_word : (text : List ℕ) → (position_or_len (λ byte. is_separator byte) text < length text → ⊥) → words text ≡ text ∷ []
one_word [] none = refl
one_word (byte ∷ text) none =
    let at : Bool → ℕ = λ test. if not test then 1 + position_or_len (λ b. is_separator b) text else 0 in
    elim (is_separator byte) as (λ test. (at test < length (byte ∷ text) → ⊥) → (if test then [] ∷ words text else onto_first byte (words text)) ≡ (byte ∷ text) ∷ []) [
      | true ↦ λ never. absurd (never (omega arith))
      | false ↦ λ never. ap (onto_first byte) (one_word text (λ less. never (omega arith)))
    ] none

abbrev split_is : List ℕ → Bool → Option (List ℕ × List ℕ)
split_is text test = if test then Some (before_first is_separator text, after_first is_separator text) else None

-- the words of a text with no space
words_none : (text : List ℕ) → split_first text ≡ None → words text ≡ text ∷ []
words_none text is =
    one_word text (λ less. let test : has_space text ≡ true = grind (arith, nat_tests) in
    let some : split_is text true ≡ None = subst (λ (t : Bool). split_is text t ≡ None) test is in cc)

-- the words of a text with a space
words_some : (text first rest : List ℕ) → split_first text ≡ Some (first, rest) → words text ≡ first ∷ words rest
words_some text first rest is =
    elim (has_space text) as (λ test. has_space text ≡ test → split_is text test ≡ Some (first, rest) → words text ≡ first ∷ words rest) [
      | true ↦ λ test same.
          let less : position_or_len (λ byte. is_separator byte) text < length text = grind (arith, nat_tests) in
          let pair : (before_first is_separator text, after_first is_separator text) ≡ (first, rest) = cc in
          slice_split_first (λ byte. is_separator byte) text 0 less ∙ ap (λ (p : List ℕ × List ℕ). p.0 ∷ words p.1) pair
      | false ↦ λ test same. let none : split_is text false ≡ Some (first, rest) = same in cc
    ] refl is

-- ---- one word, two words, three words, and more
pub ranges_one : (text : List ℕ) → split_first text ≡ None → ranges text ≡ None
unfolding ranges
ranges_one text none = ap ranges_of_words (words_none text none)

pub ranges_two : (text row rest : List ℕ) → split_first text ≡ Some (row, rest) → split_first rest ≡ None → ranges text ≡ None
unfolding ranges
ranges_two text row rest one none = ap ranges_of_words (words_some text row rest one ∙ ap (λ (w : List (List ℕ)). row ∷ w) (words_none rest none))

single_range : (one : Option AtomicRange) → option_map (λ (p : AtomicRange × List AtomicRange). p.0 ∷ p.1) (option_zip one (Some [])) ≡ option_map (λ one. one ∷ []) one
single_range None = refl
single_range (Some one) = refl

pub ranges_three : (text row rest start end : List ℕ) → split_first text ≡ Some (row, rest) → split_first rest ≡ Some (start, end) → split_first end ≡ None → ranges text ≡ option_map (λ one. one ∷ []) (range row start end)
unfolding ranges
ranges_three text row rest start end one two none =
    ap ranges_of_words (words_some text row rest one ∙ ap (λ (w : List (List ℕ)). row ∷ w) (words_some rest start end two ∙ ap (λ (w : List (List ℕ)). start ∷ w) (words_none end none)))
    ∙ single_range (range row start end)

-- the first range, if it is read, before the others
abbrev pub first_and : Option AtomicRange → Option (List AtomicRange) → Option (List AtomicRange)
first_and None more = None
first_and (Some one) more = option_map (λ ranges. one ∷ ranges) more

first_zipped : (one : Option AtomicRange) (more : Option (List AtomicRange)) → option_map (λ (p : AtomicRange × List AtomicRange). p.0 ∷ p.1) (option_zip one more) ≡ first_and one more
first_zipped None more = refl
first_zipped (Some one) None = refl
first_zipped (Some one) (Some more) = refl

pub ranges_more : (text row rest start last end after : List ℕ) → split_first text ≡ Some (row, rest) → split_first rest ≡ Some (start, last) → split_first last ≡ Some (end, after)
    → ranges text ≡ first_and (range row start end) (ranges after)
unfolding ranges
ranges_more text row rest start last end after one two three =
    ap ranges_of_words (words_some text row rest one ∙ ap (λ (w : List (List ℕ)). row ∷ w) (words_some rest start last two ∙ ap (λ (w : List (List ℕ)). start ∷ w) (words_some last end after three)))
    ∙ first_zipped (range row start end) (ranges_of_words (words after))
