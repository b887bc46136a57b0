use Rattle.mum_voice.proofs.Common.{sym, ap, ◌∙◌, arith, packet}
use Rattle.mum_voice.proofs.Parsing.{packet-spelled, packet-found, fault-found, fault-there, is_proper}
use Rattle.mum_voice.proofs.packet.Packet.parse.Goals as goal

pub returns-clause-grammar : goal.returns-clause-grammar
returns-clause-grammar c = λ p. (λ e. packet-found c.args.bytes.now p (λ i. omega (arith, c.type_inv.bytes i)) (sym c.parts_of.ensures ∙ e), λ h. c.parts_of.ensures ∙ ap packet h.1 ∙ packet-spelled p h.0)

pub returns-clause-faults : goal.returns-clause-faults
returns-clause-faults c = λ fault. (λ e. fault-found c.args.bytes.now fault (λ i. omega (arith, c.type_inv.bytes i)) (sym c.parts_of.ensures ∙ e), λ h. c.parts_of.ensures ∙ fault-there (λ i. omega (arith, c.type_inv.bytes i)) h)

pub returns-clause-proper : goal.returns-clause-proper
returns-clause-proper c = is_proper c.args.bytes.now c.parts_of.result (λ i. omega (arith, c.type_inv.bytes i)) c.parts_of.ensures
