use Rattle.model.proofs.Merge.{merge-rule}
use Rattle.model.proofs.ByPlaces.{merge-rule-by-places, accounts-by-places}
use Rattle.model.proofs.laws.merge_rule.Goals as goal

pub returns : goal.returns
returns c = record { by_accounts = merge-rule; by_places = merge-rule-by-places; both_forms = accounts-by-places }
