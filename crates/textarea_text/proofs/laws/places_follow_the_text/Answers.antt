use Rattle.textarea_text.proofs.PlacesAfterSplice.{follows_splice, stays}
use Rattle.textarea_text.proofs.laws.places_follow_the_text.Goals as goal

pub returns-clause-before : goal.returns-clause-before
returns-clause-before c = stays

pub returns-clause-after : goal.returns-clause-after
returns-clause-after c = follows_splice
