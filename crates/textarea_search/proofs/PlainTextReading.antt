-- What the grammar reads in the pattern of a plain text: its characters, between bounds of words.
use Rattle.std.proofs.Common.{◌≡◌, ◌≢◌, ℕ, ◌+◌, ◌-◌, ◌*◌, ◌≤◌, ◌<◌, ◌⊎◌, Bool, true, false, not, ◌&&◌, ◌==◌, nat_lt, ne_eqb, List, [], ◌∷◌, ◌++◌}
use Rattle.std.proofs.Common.{map, length, length-append, slice_get, Option, None, Some, IsSomeAnd, append-nil, append_assoc, refl, sym, ap, ◌∙◌, subst, inl, inr, ⊎_elim, arith, zero-add, if◌then◌else◌, IsUtf8}
use Rattle.std.proofs.lemmas.Bool.{both_ways, cases_Bool, and_left, and_right, cond_both, and_parts, and_from}
use Rattle.std.proofs.lemmas.Bool.Decides.{nat_tests}
use Rattle.std.proofs.lemmas.List.{map-append}
use Rattle.std.proofs.lemmas.Str.{chars-encodes, encode_ascii, encodes-append, scalars-chars}
use Rattle.std.specs.Option.{option_map_or}
use Rattle.std.specs.Prelude.{IfSome}
use Rattle.std.specs.Char.{is_digit, is_ascii, is_ascii_alphanumeric}
use Rattle.std.specs.List.{last_or}
use Rattle.std.specs.Str.{chars}
use lib.Utf8.{scalars, encodes}
use Rattle.regex_hir.specs.Meaning.{cat_all, alt_all}
use Rattle.regex_hir.specs.Re.{Re, empty, look}
use Rattle.regex_hir.specs.declared.look.Look.TheVariants.{WordUnicode}
use Rattle.regex_syntax.proofs.BranchLemmas.{ends_branch, Read, repetitions_end, join_after, branch_ends, branch_goes, more_parts, group_inside, join_parts_is, branches_go, more_branches, join_ends}
use Rattle.regex_syntax.proofs.BracketLemmas.{deepest-append}
use Rattle.regex_syntax.proofs.LikenessLaws.{alike_of_same}
use Rattle.regex_syntax.proofs.ReadingLemmas.{skip-false}
use Rattle.regex_syntax.proofs.TreeLaws.{◌then◌, alt-fail, empty-cat, same_of_eq}
use Rattle.regex_syntax.specs.Same.{SameTree}
use Rattle.regex_syntax.specs.Brackets.{Nested, flat, join, deepest}
use Rattle.regex_syntax.specs.declared.Config.{Config}
use Rattle.regex_syntax.specs.Escapes.{is_verbose, boundary, escape, character, one_letter}
use Rattle.regex_syntax.specs.Grammar.{Names, Place, atom, piece_meaning, char_meaning, item, opening, read, set_flag, set_flags, with_repetitions, items, join_parts, branches}
use Rattle.regex_syntax.specs.Reading.{Text, is_at, first, skip, ◌>>=◌}
use Rattle.regex_syntax.specs.Sets.{case_fold, one_of, verbatim}
use Rattle.regex_syntax.specs.Verdict.{default_config, default_flags, is_meta, escaped_text}
use Rattle.regex.specs.Patterns.{find_all_str, span}
use Rattle.regex.proofs.ForCallers.{spans_alike}
use Rattle.regex.proofs.SearchLemmas.{matches_after_text}
use Rattle.textarea_search.specs.Matches.{match_spans}
use Rattle.textarea_search.specs.PatternErrors.{IsNoPattern}
use Rattle.textarea_search.specs.PlainTexts.{character_tree, is_word_end, text_pattern, text_tree}
use Rattle.textarea_search.specs.Spans.{ListsMatchesOf, spans_after}
use Rattle.textarea_search.proofs.PatternLemmas.{byte_of_text}

-- ---- characters with a meaning of their own

abbrev IsMeta : ℕ → Type 0
IsMeta c = ((35 ≤ c) × (c ≤ 46)) ⊎ ((c ≡ 63) ⊎ (((91 ≤ c) × (c ≤ 94)) ⊎ ((123 ≤ c) × (c ≤ 126))))

meta_range : (c : ℕ) → is_meta c ≡ true → IsMeta c
meta_range c h = grind (arith, nat_tests)

plain_differs : (c d : ℕ) → is_meta c ≡ false → is_meta d ≡ true → (c == d) ≡ false
plain_differs c d plain meta = ne_eqb c d (λ e. both_ways _ plain (ap is_meta e ∙ meta))

abbrev escaped_char : ℕ → Text
escaped_char c = if is_meta c then 0x5C ∷ c ∷ [] else c ∷ []

no_operator : (cs rest : Text) → is_at "?*+{" rest ≡ false → is_at "?*+{" (escaped_text cs ++ rest) ≡ false
unfolding first
no_operator [] rest h = h
no_operator (c ∷ cs) rest h =
    ⊎_elim
    (λ (meta : is_meta c ≡ true). rw meta)
    (λ (plain : is_meta c ≡ false). rw plain (rw (
      plain_differs c 63 plain refl,
      plain_differs c 42 plain refl,
      plain_differs c 43 plain refl,
      plain_differs c 123 plain refl,
    )))
    (cases_Bool (is_meta c))

no_brace : (rest : Text) → is_at "?*+{" rest ≡ false → is_at "{" rest ≡ false
unfolding first
no_brace [] h = refl
no_brace (c ∷ rest) h = grind (arith, nat_tests)

-- ---- a bound of a word, if there is one

abbrev bound_part : Nested Re
bound_part = flat (look WordUnicode)

abbrev bound_text : Bool → Text
bound_text some = if some then 0x5C ∷ 0x62 ∷ [] else []

abbrev bound_parts : Bool → List (Nested Re)
bound_parts some = if some then bound_part ∷ [] else []

abbrev bound_count : Bool → ℕ
bound_count some = if some then 1 else 0

abbrev bound_trees : Bool → List Re
bound_trees some = if some then look WordUnicode ∷ [] else []

-- ---- the items of a branch

-- under flags by which each character is read as its tree
module _ (config : Config) (names : Names) (tree : ℕ → Re) (dense : config.flags.ignore_whitespace ≡ false) (no_octal : config.octal ≡ false)
    (unicode_on : config.flags.unicode ≡ true) (verbatim_is : (c : ℕ) → verbatim config c false ≡ Some (tree c)) where
  abbrev at_text : Text → Place
  at_text t = record { config = config; names = names; text = t }

  abbrev part_of : ℕ → Nested Re
  part_of c = flat (tree c)

  no_skip : (t : Text) → t ≡ skip (is_verbose config) t
  no_skip t = sym (ap (λ v. skip v t) dense ∙ skip-false t)

  escape_meta : (c : ℕ) (rest : Text) → IsMeta c → escape config (c ∷ rest) ≡ Some (character c false, rest)
  unfolding escape one_letter first
  escape_meta c rest h =
      let no_digit : is_digit c 8 ≡ false = grind (arith, nat_tests) in
      let punctuation : (is_ascii c && not (is_ascii_alphanumeric c)) ≡ true = grind (arith, nat_tests) in
      rw (
        escape,
        and_right config.octal _ no_digit,
        one_letter,
        punctuation,
        ne_eqb c 120 (omega arith),
        ne_eqb c 117 (omega arith),
        ne_eqb c 85 (omega arith),
        ne_eqb c 112 (omega arith),
        ne_eqb c 80 (omega arith),
        ne_eqb c 98 (omega arith),
        ne_eqb c 100 (omega arith),
        ne_eqb c 68 (omega arith),
        ne_eqb c 115 (omega arith),
        ne_eqb c 83 (omega arith),
        ne_eqb c 119 (omega arith),
        ne_eqb c 87 (omega arith),
        ne_eqb c 65 (omega arith),
        ne_eqb c 122 (omega arith),
        ne_eqb c 66 (omega arith),
        ne_eqb c 60 (omega arith),
        ne_eqb c 62 (omega arith),
        ne_eqb c 97 (omega arith),
        ne_eqb c 102 (omega arith),
        ne_eqb c 116 (omega arith),
        ne_eqb c 110 (omega arith),
        ne_eqb c 114 (omega arith),
        ne_eqb c 118 (omega arith),
      )

  atom_is : (c : ℕ) (rest : Text) → atom config (escaped_char c ++ rest) ≡ Some (part_of c, rest)
  unfolding atom first piece_meaning char_meaning
  atom_is c rest =
      ⊎_elim
      (λ (meta : is_meta c ≡ true). rw meta (rw (atom, escape_meta c rest (meta_range c meta), piece_meaning, verbatim_is)))
      (λ (plain : is_meta c ≡ false). rw plain
      (rw (
        atom,
        char_meaning,
        plain_differs c 63 plain refl,
        plain_differs c 42 plain refl,
        plain_differs c 43 plain refl,
        plain_differs c 123 plain refl,
        plain_differs c 91 plain refl,
        plain_differs c 92 plain refl,
        plain_differs c 46 plain refl,
        plain_differs c 94 plain refl,
        plain_differs c 36 plain refl,
        verbatim_is,
      )))
      (cases_Bool (is_meta c))

  begins_no_group : (c : ℕ) (rest : Text) → (is_at "(" (escaped_char c ++ rest) ≡ false) × (ends_branch (escaped_char c ++ rest) ≡ false)
  unfolding first
  begins_no_group c rest =
      ⊎_elim
      (λ (meta : is_meta c ≡ true). rw meta (refl, grind (arith, nat_tests)))
      (λ (plain : is_meta c ≡ false). rw plain
      (plain_differs c 40 plain refl, rw (plain_differs c 124 plain refl, plain_differs c 41 plain refl) (grind (arith, nat_tests))))
      (cases_Bool (is_meta c))

  -- an atom that no operator of repetition follows is an item
  item_of_atom : (inner : Place → Read (Nested Re)) (t rest : Text) (part : Nested Re) → is_at "(" t ≡ false →
      atom config t ≡ Some (part, rest) → is_at "?*+{" rest ≡ false → item inner (at_text t) ≡ Some (part, at_text rest)
  unfolding item with_repetitions
  item_of_atom inner t rest part no_group read_atom h =
      rw (
        item,
        no_group,
        read_atom,
        with_repetitions,
        repetitions_end config (length rest + 1) (length rest) part rest rest (omega arith) (no_skip rest) h,
      )

  -- and the branch goes on after it
  branch_passes : (n m : ℕ) (earlier : List (Nested Re)) (t rest : Text) (part : Nested Re) → n ≡ m + 1 →
      (is_at "(" t ≡ false) × (ends_branch t ≡ false) → atom config t ≡ Some (part, rest) → is_at "?*+{" rest ≡ false →
      join_after cat_all earlier (items n (at_text t)) ≡ join_after cat_all (earlier ++ part ∷ []) (items m (at_text rest))
  branch_passes n m earlier t rest part e begins read_atom h =
      branch_goes n m earlier (at_text t) t (omega arith) (no_skip t) begins.1
      ∙ ap (λ o. o >>= more_parts m earlier) (item_of_atom (group_inside m) t rest part begins.0 read_atom h)

  -- an escaped text is read as its characters
  items_escaped : (cs rest : Text) (n m : ℕ) (earlier : List (Nested Re)) → n ≡ length cs + m → is_at "?*+{" rest ≡ false →
      join_after cat_all earlier (items n (at_text (escaped_text cs ++ rest)))
      ≡ join_after cat_all (earlier ++ map part_of cs) (items m (at_text rest))
  items_escaped [] rest n m earlier e h = rw (append-nil, e ∙ zero-add m)
  items_escaped (c ∷ cs) rest n m earlier e h =
      let more = escaped_text cs ++ rest in
      ap (λ t. join_after cat_all earlier (items n (at_text t))) (append_assoc (escaped_char c) (escaped_text cs) rest)
      ∙ branch_passes n (n - 1) earlier _ more (part_of c) (omega arith) (begins_no_group c more) (atom_is c more) (no_operator cs rest h)
      ∙ items_escaped cs rest (n - 1) m (earlier ++ part_of c ∷ []) (omega arith) h
      ∙ ap (λ all. join_after cat_all all (items m (at_text rest))) (append_assoc earlier (part_of c ∷ []) (map part_of cs))

  atom_bound : (rest : Text) → is_at "?*+{" rest ≡ false → atom config (0x5C ∷ 0x62 ∷ rest) ≡ Some (bound_part, rest)
  unfolding atom escape boundary piece_meaning first
  atom_bound rest h = rw (atom, escape, and_left config.octal (is_digit 0x62 8) no_octal, boundary, no_brace rest h, piece_meaning, unicode_on)

  items_bound : (some : Bool) (rest : Text) (n m : ℕ) (earlier : List (Nested Re)) → n ≡ bound_count some + m → is_at "?*+{" rest ≡ false →
      join_after cat_all earlier (items n (at_text (bound_text some ++ rest)))
      ≡ join_after cat_all (earlier ++ bound_parts some) (items m (at_text rest))
  unfolding first
  items_bound true rest n m earlier e h =
      branch_passes n m earlier (0x5C ∷ 0x62 ∷ rest) rest bound_part (omega arith) (refl, grind (arith, nat_tests)) (atom_bound rest h) h
  items_bound false rest n m earlier e h = rw (append-nil, e ∙ zero-add m)

  no_operator_after : (some : Bool) → is_at "?*+{" (bound_text some) ≡ false
  unfolding first
  no_operator_after true = refl
  no_operator_after false = refl

  -- the whole branch
  branch_is : (first_bound last_bound : Bool) (cs : Text) (n : ℕ) (earlier : List (Nested Re)) → bound_count first_bound + length cs + bound_count last_bound < n →
      join_after cat_all earlier (items n (at_text (bound_text first_bound ++ (escaped_text cs ++ bound_text last_bound))))
      ≡ Some (join cat_all (((earlier ++ bound_parts first_bound) ++ map part_of cs) ++ bound_parts last_bound), at_text [])
  unfolding first
  branch_is first_bound last_bound cs n earlier h =
      let m = n - bound_count first_bound in
      let k = m - length cs in
      let l = k - bound_count last_bound in
      items_bound first_bound (escaped_text cs ++ bound_text last_bound) n m earlier (omega arith) (no_operator cs (bound_text last_bound) (no_operator_after last_bound))
      ∙ items_escaped cs (bound_text last_bound) m k (earlier ++ bound_parts first_bound) (omega arith) (no_operator_after last_bound)
      ∙ ap (λ t. join_after cat_all ((earlier ++ bound_parts first_bound) ++ map part_of cs) (items k (at_text t))) (sym (append-nil (bound_text last_bound)))
      ∙ items_bound last_bound [] k l ((earlier ++ bound_parts first_bound) ++ map part_of cs) (omega arith) refl
      ∙ branch_ends l (l - 1) (((earlier ++ bound_parts first_bound) ++ map part_of cs) ++ bound_parts last_bound) (at_text []) [] (omega arith) (no_skip []) refl

  -- ---- what the branch matches, and how deep it is

  bound_trees_are : (some : Bool) → map (λ (part : Nested Re). part.value) (bound_parts some) ≡ bound_trees some
  bound_trees_are true = refl
  bound_trees_are false = refl

  trees_are : (cs : Text) → map (λ (part : Nested Re). part.value) (map part_of cs) ≡ map tree cs
  trees_are [] = refl
  trees_are (c ∷ cs) = ap (λ rest. tree c ∷ rest) (trees_are cs)

  values_are : (first_bound last_bound : Bool) (cs : Text) →
      map (λ (part : Nested Re). part.value) ((bound_parts first_bound ++ map part_of cs) ++ bound_parts last_bound)
      ≡ bound_trees first_bound ++ (map tree cs ++ bound_trees last_bound)
  values_are first_bound last_bound cs =
      let value : Nested Re → Re = λ part. part.value in
      map-append value (bound_parts first_bound ++ map part_of cs) (bound_parts last_bound)
      ∙ ap (λ xs. xs ++ map value (bound_parts last_bound)) (map-append value (bound_parts first_bound) (map part_of cs))
      ∙ append_assoc (map value (bound_parts first_bound)) (map value (map part_of cs)) (map value (bound_parts last_bound))
      ∙ ap (λ xs. xs ++ (map value (map part_of cs) ++ map value (bound_parts last_bound))) (bound_trees_are first_bound)
      ∙ ap (λ xs. bound_trees first_bound ++ (xs ++ map value (bound_parts last_bound))) (trees_are cs)
      ∙ ap (λ xs. bound_trees first_bound ++ (map tree cs ++ xs)) (bound_trees_are last_bound)

  flat_bound : (some : Bool) → deepest (bound_parts some) ≡ 0
  flat_bound true = refl
  flat_bound false = refl

  flat_parts : (cs : Text) → deepest (map part_of cs) ≡ 0
  flat_parts [] = refl
  flat_parts (c ∷ cs) = omega (arith, flat_parts cs)

  flat_branch : (first_bound last_bound : Bool) (cs : Text) → deepest ((bound_parts first_bound ++ map part_of cs) ++ bound_parts last_bound) ≡ 0
  flat_branch first_bound last_bound cs =
      omega (
        arith,
        deepest-append (bound_parts first_bound ++ map part_of cs) (bound_parts last_bound),
        deepest-append (bound_parts first_bound) (map part_of cs),
        flat_bound first_bound,
        flat_bound last_bound,
        flat_parts cs,
      )

-- ---- a pattern of one branch

abbrev at_place : Config → Text → Place
at_place config t = record { config = config; names = None ∷ []; text = t }

read_branch : (config after : Config) (t : Text) (branch : Nested Re) → join_after cat_all [] (items (2 * length t + 1) (at_place config t)) ≡ Some (branch, at_place after []) →
    join_parts alt_all (branches (2 * length t + 2) (at_place config t)) ≡ Some (join alt_all (branch ∷ []), at_place after [])
unfolding first
read_branch config after t branch h =
    join_parts_is alt_all _ ∙ branches_go _ (2 * length t + 1) [] _ (omega arith)
    ∙ ap (λ o. o >>= more_branches (2 * length t + 1) []) (join_parts_is cat_all _ ∙ h) ∙ join_ends alt_all (branch ∷ []) _

-- the flag that ignores case, from which on the other flags hold
abbrev folded : Config
folded = record default_config { flags = record default_flags { case_insensitive = true } }

setting_is : (inner : Place → Read (Nested Re)) (rest : Text) → item inner (at_place default_config (0x28 ∷ 0x3F ∷ 0x69 ∷ 0x29 ∷ rest)) ≡ Some (flat empty, at_place folded rest)
unfolding item opening set_flags set_flag first skip
setting_is inner rest = refl

setting_passes : (n m : ℕ) (rest : Text) → n ≡ m + 1 →
    join_after cat_all [] (items n (at_place default_config (0x28 ∷ 0x3F ∷ 0x69 ∷ 0x29 ∷ rest))) ≡ join_after cat_all (flat empty ∷ []) (items m (at_place folded rest))
unfolding first skip
setting_passes n m rest e =
    branch_goes n m [] (at_place default_config (0x28 ∷ 0x3F ∷ 0x69 ∷ 0x29 ∷ rest)) (0x28 ∷ 0x3F ∷ 0x69 ∷ 0x29 ∷ rest) (omega arith) refl (grind (arith, nat_tests))
    ∙ ap (λ o. o >>= more_parts m []) (setting_is (group_inside m) rest)

exact_is : (c : ℕ) → verbatim default_config c false ≡ Some (character_tree false c)
unfolding verbatim
exact_is c = refl

folded_is : (c : ℕ) → verbatim folded c false ≡ Some (character_tree true c)
unfolding verbatim one_of case_fold
folded_is c = refl

escaped_is_longer : (cs : Text) → length cs ≤ length (escaped_text cs)
escaped_is_longer [] = omega arith
escaped_is_longer (c ∷ cs) =
    let one : 1 ≤ length (escaped_char c) = cond_both (is_meta c) _ _ (λ t. 1 ≤ length t) (λ _. omega arith) (λ _. omega arith) in
    omega (arith, escaped_is_longer cs, length-append (escaped_char c) (escaped_text cs))

bound_is_longer : (some : Bool) → bound_count some ≤ length (bound_text some)
bound_is_longer true = omega arith
bound_is_longer false = omega arith

-- ---- the whole pattern

-- what is read, no deeper than one level, matches as this tree does
abbrev pub IsRead : Option (Nested Re × Names) → Re → Type 0
IsRead read tree = IsSomeAnd read (λ (found, _). (found.depth ≤ 1) × SameTree found.value tree)

one_level : (n : ℕ) → (if nat_lt 1 n then 1 else 0) ≤ 1
one_level n = cond_both (nat_lt 1 n) 1 0 (λ k. k ≤ 1) (λ _. omega arith) (λ _. omega arith)

-- one branch without depth is such a pattern
read_flat : (config after : Config) (t : Text) (parts : List (Nested Re)) (tree : Re) →
    join_after cat_all [] (items (2 * length t + 1) (at_place config t)) ≡ Some (join cat_all parts, at_place after []) →
    deepest parts ≡ 0 → SameTree (cat_all (map (λ (part : Nested Re). part.value) parts)) tree → IsRead (read config t) tree
unfolding read first
read_flat config after t parts tree h flat_is same =
    rw (read, read_branch config after t (join cat_all parts) h) (omega (arith, flat_is, one_level (length parts)), alt-fail _ then same)

module _ (first_bound last_bound : Bool) (cs : Text) where
  abbrev tree_for : Bool → Re
  tree_for ignore_case = cat_all (bound_trees first_bound ++ (map (character_tree ignore_case) cs ++ bound_trees last_bound))

  abbrev after_flag : Text
  after_flag = bound_text first_bound ++ (escaped_text cs ++ bound_text last_bound)

  longer : bound_count first_bound + length cs + bound_count last_bound ≤ length after_flag
  longer =
      omega (
        arith,
        length-append (bound_text first_bound) (escaped_text cs ++ bound_text last_bound),
        length-append (escaped_text cs) (bound_text last_bound),
        escaped_is_longer cs,
        bound_is_longer first_bound,
        bound_is_longer last_bound,
      )

  read_exact : IsRead (read default_config after_flag) (tree_for false)
  read_exact =
      let tree = character_tree false in
      read_flat default_config default_config after_flag ((bound_parts first_bound ++ map (λ c. flat (tree c)) cs) ++ bound_parts last_bound) (tree_for false)
      (branch_is default_config (None ∷ []) tree refl refl refl exact_is first_bound last_bound cs (2 * length after_flag + 1) [] (omega (arith, longer)))
      (flat_branch default_config (None ∷ []) tree refl refl refl exact_is first_bound last_bound cs)
      (same_of_eq (ap cat_all (values_are default_config (None ∷ []) tree refl refl refl exact_is first_bound last_bound cs)))

  read_folded : IsRead (read default_config (0x28 ∷ 0x3F ∷ 0x69 ∷ 0x29 ∷ after_flag)) (tree_for true)
  read_folded =
      let tree = character_tree true in
      let t : Text = 0x28 ∷ 0x3F ∷ 0x69 ∷ 0x29 ∷ after_flag in
      let parts : List (Nested Re) = (bound_parts first_bound ++ map (λ c. flat (tree c)) cs) ++ bound_parts last_bound in
      let more : length t ≡ length after_flag + 4 = omega arith in
      read_flat default_config folded t (flat empty ∷ parts) (tree_for true)
      (setting_passes (2 * length t + 1) (2 * length t) after_flag (omega arith)
      ∙ branch_is folded (None ∷ []) tree refl refl refl folded_is first_bound last_bound cs (2 * length t) (flat empty ∷ []) (omega (arith, longer)))
      (omega (arith, flat_branch folded (None ∷ []) tree refl refl refl folded_is first_bound last_bound cs))
      (empty-cat _ then same_of_eq (ap cat_all (values_are folded (None ∷ []) tree refl refl refl folded_is first_bound last_bound cs)))

-- ---- the bytes of the pattern

scalars_escaped : (cs : Text) → scalars cs ≡ true → scalars (escaped_text cs) ≡ true
scalars_escaped [] h = refl
scalars_escaped (c ∷ cs) h =
    let parts = and_parts _ _ h in
    let both = and_from _ _ parts.0 (scalars_escaped cs parts.1) in
    cond_both (is_meta c) (0x5C ∷ c ∷ []) (c ∷ []) (λ t. scalars (t ++ escaped_text cs) ≡ true) (λ _. both) (λ _. both)

scalars-append : (xs ys : Text) → scalars xs ≡ true → scalars ys ≡ true → scalars (xs ++ ys) ≡ true
scalars-append [] ys p q = q
scalars-append (x ∷ xs) ys p q = and_from _ _ (and_parts _ _ p).0 (scalars-append xs ys (and_parts _ _ p).1 q)

scalars_bound : (some : Bool) → scalars (bound_text some) ≡ true
scalars_bound true = refl
scalars_bound false = refl

encoded_one : (c : ℕ) (t : Text) → c < 128 → encodes (c ∷ t) ≡ c ∷ encodes t
encoded_one c t small = ap (λ bs. bs ++ encodes t) (encode_ascii c small)

encoded_bound : (some : Bool) → encodes (bound_text some) ≡ bound_text some
encoded_bound true = encoded_one 0x5C (0x62 ∷ []) (omega arith) ∙ ap (λ bs. 0x5C ∷ bs) (encoded_one 0x62 [] (omega arith))
encoded_bound false = refl

encoded_flag : (t : Text) → encodes (0x28 ∷ 0x3F ∷ 0x69 ∷ 0x29 ∷ t) ≡ 0x28 ∷ 0x3F ∷ 0x69 ∷ 0x29 ∷ encodes t
encoded_flag t =
    encoded_one 0x28 (0x3F ∷ 0x69 ∷ 0x29 ∷ t) (omega arith)
    ∙ ap (λ bs. 0x28 ∷ bs) (encoded_one 0x3F (0x69 ∷ 0x29 ∷ t) (omega arith)
    ∙ ap (λ bs. 0x3F ∷ bs) (encoded_one 0x69 (0x29 ∷ t) (omega arith) ∙ ap (λ bs. 0x69 ∷ bs) (encoded_one 0x29 t (omega arith))))

encoded_after : (first_bound last_bound : Bool) (cs : Text) →
    encodes (bound_text first_bound ++ (escaped_text cs ++ bound_text last_bound))
    ≡ bound_text first_bound ++ (encodes (escaped_text cs) ++ bound_text last_bound)
encoded_after first_bound last_bound cs =
    encodes-append (bound_text first_bound) (escaped_text cs ++ bound_text last_bound)
    ∙ ap (λ xs. xs ++ encodes (escaped_text cs ++ bound_text last_bound)) (encoded_bound first_bound)
    ∙ ap (λ xs. bound_text first_bound ++ xs)
    (encodes-append (escaped_text cs) (bound_text last_bound) ∙ ap (λ xs. encodes (escaped_text cs) ++ xs) (encoded_bound last_bound))

scalars_after : (first_bound last_bound : Bool) (cs : Text) → scalars cs ≡ true → scalars (bound_text first_bound ++ (escaped_text cs ++ bound_text last_bound)) ≡ true
scalars_after first_bound last_bound cs h =
    scalars-append (bound_text first_bound) (escaped_text cs ++ bound_text last_bound) (scalars_bound first_bound)
    (scalars-append (escaped_text cs) (bound_text last_bound) (scalars_escaped cs h) (scalars_bound last_bound))

-- ---- the pattern of a text

pub reading : (text : List ℕ) (ignore_case whole_word : Bool) → IsUtf8 text → text ≢ [] →
    IsRead (read default_config (chars (text_pattern text ignore_case whole_word))) (text_tree text ignore_case whole_word)
reading [] ignore_case whole_word utf8 some = absurd (some refl)
reading (byte ∷ bytes) false whole_word utf8 some =
    let cs = chars (byte ∷ bytes) in
    let first_bound = whole_word && is_word_end (slice_get cs 0) in
    let last_bound = whole_word && is_word_end (last_or None cs) in
    let t = after_flag first_bound last_bound cs in
    let is : chars (text_pattern (byte ∷ bytes) false whole_word) ≡ t =
    ap chars (sym (encoded_after first_bound last_bound cs)) ∙ chars-encodes t (scalars_after first_bound last_bound cs (scalars-chars (byte ∷ bytes) utf8)) in
    subst (λ u. IsRead (read default_config u) (text_tree (byte ∷ bytes) false whole_word)) (sym is) (read_exact first_bound last_bound cs)
reading (byte ∷ bytes) true whole_word utf8 some =
    let cs = chars (byte ∷ bytes) in
    let first_bound = whole_word && is_word_end (slice_get cs 0) in
    let last_bound = whole_word && is_word_end (last_or None cs) in
    let t : Text = 0x28 ∷ 0x3F ∷ 0x69 ∷ 0x29 ∷ after_flag first_bound last_bound cs in
    let bytes_are : text_pattern (byte ∷ bytes) true whole_word ≡ encodes t =
    ap (λ (rest : List ℕ). 0x28 ∷ 0x3F ∷ 0x69 ∷ 0x29 ∷ rest) (sym (encoded_after first_bound last_bound cs))
    ∙ sym (encoded_flag (after_flag first_bound last_bound cs)) in
    let is : chars (text_pattern (byte ∷ bytes) true whole_word) ≡ t =
    ap chars bytes_are ∙ chars-encodes t (scalars_after first_bound last_bound cs (scalars-chars (byte ∷ bytes) utf8)) in
    subst (λ u. IsRead (read default_config u) (text_tree (byte ∷ bytes) true whole_word)) (sym is) (read_folded first_bound last_bound cs)

-- ---- what that means for searches

refused : (tree : Re) (read_is : Option (Nested Re × Names)) → IsRead read_is tree → (read_is ≡ None) ⊎ IfSome read_is (λ (found, _). 250 < found.depth) → ⊥
refused tree None is failed = absurd is
refused tree (Some found) is failed = elim failed [ inl none ↦ cc | inr deep ↦ omega (arith, is.0, deep) ]

pub accepted : (text : List ℕ) (ignore_case whole_word : Bool) → IsUtf8 text → text ≢ [] → ¬ (IsNoPattern (text_pattern text ignore_case whole_word))
accepted text ignore_case whole_word utf8 some =
    refused (text_tree text ignore_case whole_word) _ (reading text ignore_case whole_word utf8 some)

spans_are : (line : List ℕ) (tree : Re) (read_is : Option (Nested Re × Names)) → IsUtf8 line → IsRead read_is tree →
    spans_after tree line 0 ≡ option_map_or (λ (found, _). map span (find_all_str found.value line)) read_is []
spans_are line tree None utf8 is = absurd is
spans_are line tree (Some found) utf8 is =
    ap (map span) (matches_after_text tree line) ∙ sym (spans_alike (alike_of_same is.1).captures line (byte_of_text line utf8) true)

pub tree_lists : (text : List ℕ) (ignore_case whole_word : Bool) → IsUtf8 text → text ≢ [] →
    ListsMatchesOf (text_pattern text ignore_case whole_word) (text_tree text ignore_case whole_word)
unfolding match_spans
tree_lists text ignore_case whole_word utf8 some line line_utf8 =
    spans_are line (text_tree text ignore_case whole_word) _ line_utf8 (reading text ignore_case whole_word utf8 some)
