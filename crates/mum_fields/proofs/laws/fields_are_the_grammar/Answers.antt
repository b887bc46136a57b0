use Rattle.mum_fields.proofs.{Payloads.fields-are, Payloads.are-fields, Stops.fields-stop, Stops.stops-fields}
use Rattle.mum_fields.proofs.laws.fields_are_the_grammar.Goals as goal

pub returns-clause-whole : goal.returns-clause-whole
returns-clause-whole c = λ cursor es. (fields-are cursor es, are-fields cursor es)

pub returns-clause-stopped : goal.returns-clause-stopped
returns-clause-stopped c = λ cursor es found. (fields-stop cursor es found, stops-fields cursor es found)
