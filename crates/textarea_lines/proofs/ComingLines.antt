-- Where lines come from after splices: a line that no splice touched is the same as before.
use Rattle.std.proofs.Common.{◌≡◌, ℕ, zero, suc, ◌+◌, ◌<◌, List, [], ◌∷◌, ◌++◌, Option, Some, None, length, take, drop, get_or, map, replicate, option_map, ap, refl, sym, subst, ◌∙◌, arith}
use Rattle.std.specs.List.{AllZip, range_with_len, slice_get}
use Rattle.std.specs.Option.{IfSome}
use Rattle.std.proofs.lemmas.List.{append_assoc, length-append}
use Rattle.textarea_util.specs.Replaced.{replaced}
use Rattle.textarea_text.specs.Splice.{Splice, CanApply, Fits, applied, applied_all}
use Rattle.textarea_text.specs.Text.{Symbol, lines}
use Rattle.textarea_text.specs.Touched.{new_line_count, replaced_line_count}
use Rattle.textarea_history.proofs.UndoLaws.{CanApply-last}
use Rattle.textarea_lines.specs.AtOnce.{IsChangedFrom, applied_each, first_origins, line_origins, numbered, origins_after}
use Rattle.textarea_lines.specs.TextLayout.{Origins, TextAndLayout, applied_to, origins_spliced}
use Rattle.textarea_lines.proofs.Splicing.{splices_lines}

-- ---- items of two lists, side by side

zip-take : {A B : Type 0} (R : A → B → Type 0) (n : ℕ) (xs : List A) (ys : List B) → AllZip R xs ys → AllZip R (take n xs) (take n ys)
zip-take R zero xs ys h = tt
zip-take R (suc n) [] [] h = tt
zip-take R (suc n) [] (y ∷ ys) h = absurd h
zip-take R (suc n) (x ∷ xs) [] h = absurd h
zip-take R (suc n) (x ∷ xs) (y ∷ ys) h = (h.0, zip-take R n xs ys h.1)

zip-drop : {A B : Type 0} (R : A → B → Type 0) (n : ℕ) (xs : List A) (ys : List B) → AllZip R xs ys → AllZip R (drop n xs) (drop n ys)
zip-drop R zero xs ys h = h
zip-drop R (suc n) [] [] h = tt
zip-drop R (suc n) [] (y ∷ ys) h = absurd h
zip-drop R (suc n) (x ∷ xs) [] h = absurd h
zip-drop R (suc n) (x ∷ xs) (y ∷ ys) h = zip-drop R n xs ys h.1

pub zip-segment : {A B : Type 0} (R : A → B → Type 0) (start n : ℕ) (xs : List A) (ys : List B) → AllZip R xs ys → AllZip R (take n (drop start xs)) (take n (drop start ys))
zip-segment R start n xs ys h = zip-take R n (drop start xs) (drop start ys) (zip-drop R start xs ys h)

zip-append : {A B : Type 0} (R : A → B → Type 0) (xs more : List A) (ys others : List B) → AllZip R xs ys → AllZip R more others → AllZip R (xs ++ more) (ys ++ others)
zip-append R [] more [] others h k = k
zip-append R [] more (y ∷ ys) others h k = absurd h
zip-append R (x ∷ xs) more [] others h k = absurd h
zip-append R (x ∷ xs) more (y ∷ ys) others h k = (h.0, zip-append R xs more ys others h.1 k)

pub zip-at : {A B : Type 0} (R : A → B → Type 0) (xs : List A) (ys : List B) (i : ℕ) (d : A) (e : B) → AllZip R xs ys → i < length xs → R (get_or xs i d) (get_or ys i e)
zip-at R [] ys i d e h within = absurd (omega arith)
zip-at R (x ∷ xs) [] i d e h within = absurd h
zip-at R (x ∷ xs) (y ∷ ys) zero d e h within = h.0
zip-at R (x ∷ xs) (y ∷ ys) (suc i) d e h within = zip-at R xs ys i d e h.1 (omega arith)

zip-replaced : {A B : Type 0} (R : A → B → Type 0) (row count : ℕ) (xs new : List A) (ys others : List B) → AllZip R xs ys → AllZip R new others → AllZip R (replaced xs row count new) (replaced ys row count others)
zip-replaced R row count xs new ys others h k =
    zip-append R (take row xs) (new ++ drop (row + count) xs) (take row ys) (others ++ drop (row + count) ys) (zip-take R row xs ys h)
    (zip-append R new (drop (row + count) xs) others (drop (row + count) ys) k (zip-drop R (row + count) xs ys h))

-- ---- lines that come from others

-- if a line comes from an old one, it is that one
abbrev pub ComesFrom : List (List ℕ) → Option ℕ → List ℕ → Type 0
ComesFrom old origin line = IfSome origin (λ (number : ℕ). slice_get old number ≡ Some line)

-- lines that come from none
none_come : (old new : List (List ℕ)) (n : ℕ) → length new ≡ n → AllZip (ComesFrom old) (replicate n None) new
none_come old [] zero e = tt
none_come old [] (suc n) e = absurd cc
none_come old (line ∷ new) zero e = absurd cc
none_come old (line ∷ new) (suc n) e = (tt, none_come old new n (cc))

-- each line comes from itself
at_seam : (before after : List (List ℕ)) (line : List ℕ) (n : ℕ) → length before ≡ n → slice_get (before ++ line ∷ after) n ≡ Some line
at_seam [] after line zero e = refl
at_seam [] after line (suc n) e = absurd cc
at_seam (first ∷ before) after line zero e = absurd cc
at_seam (first ∷ before) after line (suc n) e = at_seam before after line n (cc)

each_comes : (before after : List (List ℕ)) (n : ℕ) → length before ≡ n → AllZip (ComesFrom (before ++ after)) (map Some (range_with_len n (length after))) after
each_comes before [] n e = tt
each_comes before (line ∷ after) n e =
    let further = each_comes (before ++ line ∷ []) after (n + 1) (length-append before (line ∷ []) ∙ ap (λ (k : ℕ). k + 1) e) in (
      at_seam before after line n e,
      subst (λ (old : List (List ℕ)). AllZip (ComesFrom old) (map Some (range_with_len (n + 1) (length after))) after) (append_assoc before (line ∷ []) after) further,
    )

-- splices leave it so
come_spliced :
    (old : List (List ℕ)) (text : List Symbol) (splices : List Splice) (origins : Origins) → CanApply text splices
    → AllZip (ComesFrom old) origins (lines text) → AllZip (ComesFrom old) (origins_after origins splices) (lines (applied_all text splices))
come_spliced old text [] origins can h = h
come_spliced old text (splice ∷ splices) origins can h =
    let touched = splices_lines text splice can.0 in
    come_spliced old (applied text splice) splices (origins_spliced origins splice) can.1
    (subst (λ (now : List (List ℕ)). AllZip (ComesFrom old) (origins_spliced origins splice) now) (sym touched.lines_are)
    (zip-replaced (ComesFrom old) splice.place.0 (replaced_line_count splice) origins (replicate (new_line_count splice) None) (lines text) touched.new h
    (none_come old touched.new (new_line_count splice) touched.coming)))

-- ---- what changes of the numbered lines lead to

text_applied : (text_layout : TextAndLayout) (splices : List Splice) → (applied_each text_layout splices).text ≡ applied_all text_layout.text splices
text_applied text_layout [] = refl
text_applied text_layout (splice ∷ splices) = text_applied (applied_to text_layout splice) splices

origins_applied :
    (text_layout : TextAndLayout) (splices : List Splice) (origins : Origins) → text_layout.layout.origins ≡ Some origins
    → (applied_each text_layout splices).layout.origins ≡ Some (origins_after origins splices)
origins_applied text_layout [] origins e = e
origins_applied text_layout (splice ∷ splices) origins e =
    origins_applied (applied_to text_layout splice) splices (origins_spliced origins splice) (ap (λ (o : Option Origins). option_map (λ (p : Origins). origins_spliced p splice) o) e)

each-last : (text_layout : TextAndLayout) (splices : List Splice) (splice : Splice) → applied_each text_layout (splices ++ splice ∷ []) ≡ applied_to (applied_each text_layout splices) splice
each-last text_layout [] splice = refl
each-last text_layout (first ∷ splices) splice = each-last (applied_to text_layout first) splices splice

-- the text of changed lines, and where they come from
pub record ComeOnce (before changed : TextAndLayout) (splices : List Splice) : Type 0 where
  pub text : changed.text ≡ applied_all before.text splices
  pub origins : changed.layout.origins ≡ Some (line_origins (length (lines before.text)) splices)
  pub lines : AllZip (ComesFrom (lines before.text)) (line_origins (length (lines before.text)) splices) (lines changed.text)

pub come_once : (before changed : TextAndLayout) (h : IsChangedFrom before changed) → ComeOnce before changed h.splices
come_once before changed h =
    let text : changed.text ≡ applied_all before.text h.splices = ap (λ (l : TextAndLayout). l.text) h.leads ∙ text_applied (numbered before) h.splices in
    record {
      text = text;
      origins = ap (λ (l : TextAndLayout). l.layout.origins) h.leads ∙ origins_applied (numbered before) h.splices (first_origins (length (lines before.text))) refl;
      lines = subst (λ (t : List Symbol). AllZip (ComesFrom (lines before.text)) (line_origins (length (lines before.text)) h.splices) (lines t)) (sym text)
          (come_spliced (lines before.text) before.text h.splices (first_origins (length (lines before.text))) h.fit (each_comes [] (lines before.text) 0 refl));
    }

-- one change more
pub changed_more : (before changed : TextAndLayout) (splice : Splice) → IsChangedFrom before changed → Fits changed.text splice → IsChangedFrom before (applied_to changed splice)
changed_more before changed splice h fits = record {
  splices = h.splices ++ splice ∷ [];
  fit = CanApply-last before.text h.splices splice h.fit (subst (λ (t : List Symbol). Fits t splice) (come_once before changed h).text fits);
  leads = ap (λ (l : TextAndLayout). applied_to l splice) h.leads ∙ sym (each-last (numbered before) h.splices splice);
}
