use Rattle.std.proofs.Common.{◌∙◌, sym}
use Rattle.tb_places.proofs.PlacesLemmas.{own_row, own_none}
use Rattle.tb_places.proofs.places.Places.events_of.Goals as goal

pub returns-in-Some : goal.returns-in-Some
returns-in-Some c names task events is index = c.row.ensures ∙ own_row names events c.args.self.now index task c.in-Some.number (sym is ∙ c.in-Some.is)

pub returns-in-None : goal.returns-in-None
returns-in-None c names task events is index = own_none names events c.args.self.now index task (sym is ∙ c.in-None.is)
