-- A connection that is not in the table yet comes last.
use Rattle.mum_audit.proofs.Common.{◌≡◌, ◌∙◌, ◌++◌, ◌∷◌, [], None, nat_eq, ap, lookup, insert_entry-new, Trail}
use Rattle.mum_audit.proofs.trail.Trail.pass_closing.Goals as goal

pub returns : goal.returns
returns c =
    let closed = c.self.inside.closed in
    let view = ap (λ (t : Trail). t.closed) c.self.view_is in
    let line = ap (λ (t : Trail). t.line) c.self.view_is in
    let least = ap (λ (t : Trail). t.least) c.self.view_is in
    let absent : lookup (λ other. nat_eq c.args.connection other) closed.entries ≡ None = cc (c.requires, view) in
    let entries : c.insert.new.self.entries ≡ closed.entries ++ (c.args.connection, c.self.inside.line) ∷ [] =
    c.in_ok-insert.ensures.entries ∙ insert_entry-new nat_eq closed c.args.connection c.self.inside.line absent in
    cc (entries, view, line, least, c.next_line-self-inside.ensures)
