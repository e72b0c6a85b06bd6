use Rattle.std.proofs.Common.{arith}
use Rattle.textarea_paint.proofs.LetterLemmas.{between, split-clusters, split-letters, split-most, split-one, split-some}
use Rattle.textarea_paint.proofs.paint.letters.split_letters.Goals as goal

pub returns-then-after-text-clause-clusters : goal.returns-then-after-text-clause-clusters
returns-then-after-text-clause-clusters c =
    split-clusters c.utf8.text (between c.after_letters-after.ensures (omega arith) c.letters_within.ensures.bound) c.split_before.result (λ f. f.text.now) (λ f. f.after.now) c.split_before.ensures.text c.split_before.ensures.after

pub returns-then-after-text-clause-letters : goal.returns-then-after-text-clause-letters
returns-then-after-text-clause-letters c =
    split-letters c.utf8.text (between c.after_letters-after.ensures (omega arith) c.letters_within.ensures.bound) c.split_before.result (λ f. f.text.now) (λ f. f.columns) c.split_before.ensures.text c.split_before.ensures.columns

pub returns-then-after-text-clause-some : goal.returns-then-after-text-clause-some
returns-then-after-text-clause-some c =
    split-some c.utf8.text (between c.after_letters-after.ensures (omega arith) c.letters_within.ensures.bound) c.split_before.result (λ f. f.text.now) (omega arith) c.split_before.ensures.text

pub returns-then-after-text-clause-most : goal.returns-then-after-text-clause-most
returns-then-after-text-clause-most c = split-most c.utf8.text (between c.after_letters-after.ensures (omega arith) c.letters_within.ensures.bound) c.split_before.result (λ f. f.text.now) c.split_before.ensures.text

pub returns-then-after-text-clause-one : goal.returns-then-after-text-clause-one
returns-then-after-text-clause-one c = split-one c.utf8.text (between c.after_letters-after.ensures (omega arith) c.letters_within.ensures.bound) c.split_before.result (λ f. f.text.now) (omega arith) c.split_before.ensures.text
