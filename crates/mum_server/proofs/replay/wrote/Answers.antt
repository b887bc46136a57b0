use Rattle.mum_server.proofs.Common.{◌≡◌, ◌∙◌, ℕ, List, Result, Ok, Err, true, false, sym, subst, OnOk, OnErr, is_ok, ⊤, Appends, AppendsFront, Rose, WritesCount}
use Rattle.mum_io.specs.declared.whole.WriteFault.{WriteFault}
use Rattle.mum_server.proofs.replay.wrote.Goals as goal

went : (r : Result ⊤ WriteFault) (P : Type 0) (old new : ℕ) → OnOk r P → WritesCount r old new → is_ok r ≡ true → P × (new ≡ old)
went (Ok done) P old new p count is = (p, count)
went (Err e) P old new p count is = cc

failed : (r : Result ⊤ WriteFault) (P : Type 0) (old new : ℕ) → OnErr r P → WritesCount r old new → is_ok r ≡ false → P × Rose old new
failed (Ok done) P old new p count is = cc
failed (Err e) P old new p count is = (p, count)

pub returns-clause-whole : goal.returns-clause-whole
returns-clause-whole g c = λ yes.
    let old = g.O.Sink.written c.args.output.now in
    let new = g.O.Sink.written c.write_all.new.output in
    went c.write_all.result (Appends old new c.args.text.now) (g.O.Sink.faults c.args.output.now) (g.O.Sink.faults c.write_all.new.output)
    (subst (λ (t : List ℕ). OnOk c.write_all.result (Appends old new t)) c.as_bytes.ensures.value c.write_all.ensures.ok)
    c.write_all.ensures.counts (sym c.is_ok.ensures.value ∙ yes)

pub returns-clause-front : goal.returns-clause-front
returns-clause-front g c = λ refused.
    let old = g.O.Sink.written c.args.output.now in
    let new = g.O.Sink.written c.write_all.new.output in
    failed c.write_all.result (AppendsFront old new c.args.text.now) (g.O.Sink.faults c.args.output.now) (g.O.Sink.faults c.write_all.new.output)
    (subst (λ (t : List ℕ). OnErr c.write_all.result (AppendsFront old new t)) c.as_bytes.ensures.value c.write_all.ensures.front)
    c.write_all.ensures.counts (sym c.is_ok.ensures.value ∙ refused)
