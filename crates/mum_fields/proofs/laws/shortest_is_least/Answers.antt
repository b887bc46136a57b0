use Rattle.mum_fields.proofs.Spellings.{shortest-is_varint, shortest-least}
use Rattle.mum_fields.proofs.laws.shortest_is_least.Goals as goal

pub returns-clause-varint : goal.returns-clause-varint
returns-clause-varint c = shortest-is_varint

pub returns-clause-least : goal.returns-clause-least
returns-clause-least c = shortest-least
