-- The text on the screen for a text, character by character.
use Rattle.std.proofs.lemmas.Grind.{common_steps}
use Rattle.std.proofs.Common.{◌≡◌, ◌≢◌, None, ℕ, zero, suc, ◌+◌, ◌-◌, ◌<◌, Bool, true, false, not, ◌==◌, cond, List, [], ◌∷◌, ◌++◌, take, drop, length, replicate, get_or, refl, sym, ap, ◌∙◌, arith, IsUtf8, encode_utf8_all}
use Rattle.std.specs.List.{list_any, filter}
use Rattle.std.specs.Str.{chars}
use Rattle.std.proofs.lemmas.Bool.Decides.{nat_tests}
use Rattle.std.proofs.lemmas.List.{append_assoc, drop_more, take-append-drop}
use Rattle.std.proofs.lemmas.List.Folds.{list_any-append}
use Rattle.std.proofs.lemmas.Str.{encodes-chars, encodes-append}
use Rattle.std.proofs.lemmas.Bool.{false≢true}
use Rattle.textarea_wrap.specs.Columns.{next_stop, column_after}
use Rattle.textarea_highlight.specs.Display.{is_tab, display_char, with_spaces, without_tabs, display_text}
use Rattle.textarea_highlight.proofs.SpaceLemmas.{spaces_encoded}

-- ---- one more character

module _ (tab_len at : ℕ) (cs : List ℕ) (n c : ℕ) (turn : (n < length cs) × (c ≡ get_or cs n c)) where
  rest : drop n cs ≡ c ∷ drop (n + 1) cs
  rest = drop_more cs n c turn.0 ∙ ap (λ d. d ∷ drop (n + 1) cs) (sym turn.1)

  pub expanded_more : (done more : List ℕ) → more ≡ done ++ encode_utf8_all (display_char tab_len at c) →
      more ++ encode_utf8_all (with_spaces tab_len (column_after tab_len at c) (drop (n + 1) cs))
      ≡ done ++ encode_utf8_all (with_spaces tab_len at (drop n cs))
  expanded_more done more e = rw (e, rest, encodes-append, append_assoc) refl

-- ---- a tab

pub tab_displayed : (tab_len column next c : ℕ) → c ≡ 9 → next ≡ column_after tab_len column c →
    replicate (next - column) 32 ≡ encode_utf8_all (display_char tab_len column c)
tab_displayed tab_len column next c tab h = rw (h, tab) (sym (spaces_encoded (next_stop tab_len column - column)))

-- ---- texts that are shown unchanged

no_tab_in_spaces : (n : ℕ) → list_any is_tab (replicate n 32) ≡ false
no_tab_in_spaces zero = refl
no_tab_in_spaces (suc n) = no_tab_in_spaces n

char_none : (b : Bool) (spaces c : ℕ) → is_tab c ≡ b → list_any is_tab (cond b (replicate spaces 32) (c ∷ [])) ≡ false
char_none true spaces c e = no_tab_in_spaces spaces
char_none false spaces c e = rw e refl

with_spaces-same : (tab_len column : ℕ) (cs : List ℕ) → list_any is_tab cs ≡ false → with_spaces tab_len column cs ≡ cs
with_spaces-same tab_len column [] none = refl
with_spaces-same tab_len column (c ∷ cs) none =
    grind (arith, common_steps, nat_tests, with_spaces-same tab_len (column_after tab_len column c) cs (grind (arith, nat_tests)))

no_tab_displayed : (tab_len column : ℕ) (cs : List ℕ) → list_any is_tab (with_spaces tab_len column cs) ≡ false
no_tab_displayed tab_len column [] = refl
no_tab_displayed tab_len column (c ∷ cs) =
    grind (
      arith,
      common_steps,
      list_any-append is_tab (display_char tab_len column c) (with_spaces tab_len (column_after tab_len column c) cs),
      char_none (is_tab c) (next_stop tab_len column - column) c,
      no_tab_displayed tab_len (column_after tab_len column c) cs,
    )

filter-same : (cs : List ℕ) → list_any is_tab cs ≡ false → filter (λ c. not (is_tab c)) cs ≡ cs
filter-same [] none = refl
filter-same (c ∷ cs) none = grind (arith, common_steps, nat_tests, filter-same cs (grind (arith, nat_tests)))

no_tab_left : (cs : List ℕ) → list_any is_tab (filter (λ c. not (is_tab c)) cs) ≡ false
no_tab_left [] = refl
no_tab_left (c ∷ cs) = grind (arith, nat_tests, no_tab_left cs)

without_tabs-same : (cs : List ℕ) → list_any is_tab (drop 1 cs) ≡ false → without_tabs cs ≡ cs
without_tabs-same cs none = ap (λ ys. take 1 cs ++ ys) (filter-same (drop 1 cs) none) ∙ take-append-drop 1 cs

without_tabs-changed : (cs : List ℕ) → list_any is_tab (drop 1 cs) ≡ true → without_tabs cs ≢ cs
without_tabs-changed [] some = λ e. false≢true some
without_tabs-changed (c ∷ cs) some = λ e.
    false≢true (sym (no_tab_left cs) ∙ ap (λ ys. list_any is_tab (drop 1 ys)) e ∙ some)

pub stops : (tab_len : ℕ) → 0 < tab_len → (tab_len == 0) ≡ false
stops tab_len h = grind (arith, nat_tests)

pub with_stops : (tab_len column : ℕ) (cs : List ℕ) → 0 < tab_len → display_text None tab_len column cs ≡ with_spaces tab_len column cs
with_stops tab_len column cs h = rw (stops tab_len h) refl

-- ---- a segment without a mask, by its tab length and whether it has a tab that counts

module _ (tab_len column : ℕ) (bs : List ℕ) (u : IsUtf8 bs) where
  at_zero : tab_len ≡ 0 → display_text None tab_len column (chars bs) ≡ without_tabs (chars bs)
  at_zero e = rw e refl

  pub unchanged_at_zero : tab_len ≡ 0 → list_any is_tab (drop 1 (chars bs)) ≡ false → display_text None tab_len column (chars bs) ≡ chars bs
  unchanged_at_zero e none = at_zero e ∙ without_tabs-same (chars bs) none

  pub changed_at_zero : tab_len ≡ 0 → list_any is_tab (drop 1 (chars bs)) ≡ true → display_text None tab_len column (chars bs) ≢ chars bs
  changed_at_zero e some = λ same. without_tabs-changed (chars bs) some (sym (at_zero e) ∙ same)

  pub unchanged_at_some : 0 < tab_len → list_any is_tab (chars bs) ≡ false → display_text None tab_len column (chars bs) ≡ chars bs
  unchanged_at_some h none = with_stops tab_len column (chars bs) h ∙ with_spaces-same tab_len column (chars bs) none

  pub changed_at_some : 0 < tab_len → list_any is_tab (chars bs) ≡ true → display_text None tab_len column (chars bs) ≢ chars bs
  changed_at_some h some = λ same.
      false≢true (sym (no_tab_displayed tab_len column (chars bs)) ∙ ap (list_any is_tab) (sym (with_stops tab_len column (chars bs) h) ∙ same) ∙ some)

  pub text_of_unchanged : display_text None tab_len column (chars bs) ≡ chars bs → bs ≡ encode_utf8_all (display_text None tab_len column (chars bs))
  text_of_unchanged e = sym (encodes-chars bs u) ∙ ap encode_utf8_all (sym e)
