-- The grapheme clusters that are left after texts and spans are taken.
use Rattle.std.proofs.Common.{◌≡◌, ℕ, ◌<◌, ◌≤◌, true, List, [], ◌∷◌, ◌++◌, length, map, refl, sym, ap, subst, ◌∙◌, arith}
use Rattle.std.specs.List.{All, flat_map}
use Rattle.std.proofs.lemmas.List.{append_assoc, length-map}
use Rattle.std.proofs.lemmas.List.Elements.{All-cons, All-head, All-nil, All-tail}
use Rattle.std.specs.Slice.Iter.{iter_rest}
use Rattle.std.specs.Str.{IsUtf8}
use Rattle.unicode_segmentation.specs.Grapheme.{graphemes}
use Rattle.textarea_screen.specs.Style.{patched}
use Rattle.textarea_screen.specs.Text.{text_bytes, content_view, span_view}
use Rattle.textarea_screen.specs.declared.screen.cell.TheConstants.{INLINE_BYTES}
use Rattle.textarea_screen.specs.declared.screen.style.Style.{Style}
use Rattle.textarea_screen.specs.declared.screen.text.Span.{Span}
use Rattle.textarea_screen.specs.declared.screen.text.SpanText.{SpanText}
use Rattle.textarea_screen.specs.declared.screen.text.SpanText.TheVariants.{Borrowed, Owned}
use Rattle.textarea_paint.specs.Clusters.{AreInline, Cluster, content_bytes, in_style, letter_clusters, plain_clusters, span_clusters, text_clusters}
use Rattle.textarea_paint.specs.DrawnText.{spans_clusters}
use Rattle.textarea_paint.specs.Letters.{AreLetters, letter_texts}
use Rattle.textarea_paint.specs.LineClusters.{FitsKind, IsClusterRun, clusters_left, kind_clusters, rest_clusters, run_clusters}
use Rattle.textarea_paint.specs.Plain.{IsPrintable, singles}
use Rattle.textarea_paint.specs.Units.{IsUnitFront}
use Rattle.textarea_paint.specs.declared.paint.clusters.ClusterRun.{ClusterRun}
use Rattle.textarea_paint.specs.declared.paint.clusters.LineClusters.{LineClusters}
use Rattle.textarea_paint.specs.declared.paint.clusters.RunKind.TheVariants.{Letters, Plain, Units}
use Rattle.textarea_paint.proofs.UnitLemmas.{front-most, front-one, front-some, front-units}

content_bytes-displayed : (content : SpanText) → content_bytes (content_view content) ≡ text_bytes content
content_bytes-displayed (Borrowed text) = refl
content_bytes-displayed (Owned text) = refl

span_clusters-displayed : (base : Style) (span : Span) → span_clusters base (span_view span) ≡ map (in_style (patched base span.style)) (graphemes true (text_bytes span.content))
span_clusters-displayed base span = ap (λ bytes. map (in_style (patched base span.style)) (graphemes true bytes)) (content_bytes-displayed span.content)

-- a run is taken, and the clusters after it are left
pub clusters_left-run : (old new : LineClusters) (run : List Cluster) → map (in_style old.style) (rest_clusters old.rest) ≡ run ++ map (in_style old.style) (rest_clusters new.rest) →
    new.style ≡ old.style → new.base ≡ old.base → iter_rest new.spans ≡ iter_rest old.spans → clusters_left old ≡ run ++ clusters_left new
unfolding clusters_left
clusters_left-run old new run split style base spans =
    rw (split, style, base, spans)
    (append_assoc run (map (in_style old.style) (rest_clusters new.rest)) (flat_map (span_clusters old.base) (map span_view (iter_rest old.spans))))

-- the clusters of a span are all taken, and the next span begins
pub clusters_left-span : (old new : LineClusters) (span : Span) → rest_clusters old.rest ≡ [] → iter_rest old.spans ≡ span ∷ iter_rest new.spans → new.base ≡ old.base →
    new.style ≡ patched old.base span.style → rest_clusters new.rest ≡ graphemes true (text_bytes span.content) → clusters_left old ≡ clusters_left new
unfolding clusters_left
clusters_left-span old new span none spans base style text = rw (none, spans, base, style, text, span_clusters-displayed old.base span) refl

-- the clusters of a span are all taken, and there is no other span
pub clusters_left-none : (s : LineClusters) → rest_clusters s.rest ≡ [] → iter_rest s.spans ≡ [] → clusters_left s ≡ []
unfolding clusters_left
clusters_left-none s none spans = rw (none, spans) refl

-- no span of these is begun yet
pub clusters_left-spans : (s : LineClusters) (style : Style) (spans : List Span) → rest_clusters s.rest ≡ [] → iter_rest s.spans ≡ spans → s.base ≡ style →
    clusters_left s ≡ spans_clusters style (map span_view spans)
unfolding clusters_left
clusters_left-spans s style spans none rest base = rw (none, rest, base) refl

-- ---- runs

plain-single : (style : Style) (text : List ℕ) → 0 < length text → length (plain_clusters style text) ≤ 1 → plain_clusters style text ≡ in_style style text ∷ []
plain-single style [] some few = absurd (omega (arith, some))
plain-single style (byte ∷ []) some few = refl
plain-single style (first ∷ second ∷ text) some few = absurd (omega (arith, few))

pub plain_run : (most : ℕ) (run : ClusterRun) → run.kind ≡ Plain → All IsPrintable run.text.now → 0 < length run.text.now → length run.text.now ≤ most → IsClusterRun most run
plain_run most run is printable some few =
    let are : run_clusters run ≡ plain_clusters run.style run.text.now = ap (λ kind. kind_clusters kind run.style run.text.now) is in
    let count : length (run_clusters run) ≡ length run.text.now =
    ap length are ∙ length-map (singles run.text.now) (in_style run.style) ∙ length-map run.text.now (λ byte. byte ∷ []) in
    record {
      fits = subst (λ kind. FitsKind kind run.columns run.text.now) (sym is) printable;
      some = omega (arith, count, some);
      bound = omega (arith, count, few);
      single = λ one. are ∙ plain-single run.style run.text.now some (subst (λ (cs : List Cluster). length cs ≤ 1) are one);
    }

pub letters_run : (most : ℕ) (run : ClusterRun) → run.kind ≡ Letters → AreLetters run.columns run.text.now → 0 < length (letter_texts run.text.now) → length (letter_texts run.text.now) ≤ most →
    (length (letter_texts run.text.now) ≤ 1 → letter_texts run.text.now ≡ run.text.now ∷ []) → IsClusterRun most run
letters_run most run is letters some few one =
    let are : run_clusters run ≡ letter_clusters run.style run.text.now = ap (λ kind. kind_clusters kind run.style run.text.now) is in
    let count : length (run_clusters run) ≡ length (letter_texts run.text.now) = ap length are ∙ length-map (letter_texts run.text.now) (in_style run.style) in
    record {
      fits = subst (λ kind. FitsKind kind run.columns run.text.now) (sym is) letters;
      some = omega (arith, count, some);
      bound = omega (arith, count, few);
      single = λ single. are ∙ ap (map (in_style run.style)) (one (omega (arith, count, single)));
    }

pub units_run : {text after : List ℕ} {bytes : ℕ} (most : ℕ) (run : ClusterRun) → IsUtf8 text → run.kind ≡ Units bytes → IsUnitFront most run.columns bytes text run.text.now after → IsClusterRun most run
units_run {bytes = bytes} most run utf8 is f =
    let are : run_clusters run ≡ text_clusters run.style run.text.now = ap (λ kind. kind_clusters kind run.style run.text.now) is in
    let count : length (run_clusters run) ≡ length (graphemes true run.text.now) = ap length are ∙ length-map (graphemes true run.text.now) (in_style run.style) in
    record {
      fits = subst (λ kind. FitsKind kind run.columns run.text.now) (sym is) (front-units utf8 f);
      some = omega (arith, count, front-some utf8 f);
      bound = omega (arith, count, front-most utf8 f);
      single = λ single. are ∙ ap (map (in_style run.style)) (front-one utf8 f (omega (arith, count, single)));
    }

-- the one cluster of a run of at most one
pub one_cluster : (run : ClusterRun) → IsClusterRun 1 run → run_clusters run ≡ in_style run.style run.text.now ∷ []
one_cluster run is = is.single is.bound

-- ---- short clusters

pub AreInline-tail : {clusters after : List Cluster} (cluster : Cluster) → clusters ≡ cluster ∷ after → AreInline clusters → AreInline after
AreInline-tail {clusters} {after} cluster fitting_clusters short = All-tail (λ (c : Cluster). length c.text ≤ INLINE_BYTES) cluster after (rw fitting_clusters at short)

module _ (P : Cluster → Type 0) where
  All-after : (run after : List Cluster) → All P (run ++ after) → All P after
  All-after [] after all = all
  All-after (cluster ∷ run) after all = All-after run after (All-tail P cluster (run ++ after) all)

  All-front : (run after : List Cluster) → All P (run ++ after) → All P run
  All-front [] after all = All-nil P
  All-front (cluster ∷ run) after all = All-cons P cluster run (All-head P cluster (run ++ after) all) (All-front run after (All-tail P cluster (run ++ after) all))

-- those before and after a place among them are short too
pub AreInline-after : {clusters : List Cluster} (run after : List Cluster) → clusters ≡ run ++ after → AreInline clusters → AreInline after
AreInline-after {clusters} run after is short = All-after (λ (c : Cluster). length c.text ≤ INLINE_BYTES) run after (rw is at short)

pub AreInline-front : {clusters : List Cluster} (run after : List Cluster) → clusters ≡ run ++ after → AreInline clusters → AreInline run
AreInline-front {clusters} run after is short = All-front (λ (c : Cluster). length c.text ≤ INLINE_BYTES) run after (rw is at short)
