use Rattle.mum_viewer.proofs.Shown.{exactly, front, uncounted, whole}
use Rattle.mum_viewer.proofs.laws.views_show_their_text.Goals as goal

pub returns-clause-front : goal.returns-clause-front
returns-clause-front g c = front g.L.Link.facts

pub returns-clause-whole : goal.returns-clause-whole
returns-clause-whole g c = whole g.L.Link.facts

pub returns-clause-exactly : goal.returns-clause-exactly
returns-clause-exactly g c = exactly g.L.Link.facts

pub returns-clause-uncounted : goal.returns-clause-uncounted
returns-clause-uncounted g c = uncounted g.L.Link.facts
