use Rattle.textarea_wrap.proofs.RestLemmas.{clusters_fit, units_fit}
use Rattle.textarea_wrap.proofs.laws.rest_fits.Goals as goal

pub returns-clause-clusters : goal.returns-clause-clusters
returns-clause-clusters c = clusters_fit

pub returns-clause-units : goal.returns-clause-units
returns-clause-units c = units_fit
