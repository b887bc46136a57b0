use Rattle.mum_tree.proofs.Common.{◌≡◌, ◌∙◌, ◌<◌, ℕ, Bool, true, eqb, List, filter, get_or, length, map, ap, sym, subst, ◌↔◌, Contains, ChannelId, Row, is_there, TreeState, linked, LeadTo}
use Rattle.mum_tree.proofs.{Closure.linked_leads, Numbered.marked_linked}
use Rattle.mum_tree.proofs.tree.Tree.linked.Goals as goal

pub returns-clause-marks : goal.returns-clause-marks
returns-clause-marks c =
    let tree : TreeState = record { channels = c.self.inside.rows.items; links = c.self.inside.links.items; greatest = c.self.inside.greatest; limit = c.self.inside.limit } in
    let id = c.args.id in
    let there = subst (λ (t : TreeState). is_there t.channels id ≡ true) (sym c.self.view_is) c.requires in
    let rows = tree.channels in
    let numbers = c.self.inside.components.items in
    let at = c.place_in_rows-at.result in
    let inside : at < length rows = subst (λ (seen : List Row). at < length seen) c.deref.ensures.value c.place_in_rows-at.ensures.within in
    let named : (d : Row) → (get_or rows at d).channel.id ≡ id = subst (λ (seen : List Row). (d : Row) → (get_or seen at d).channel.id ≡ id) c.deref.ensures.value c.place_in_rows-at.ensures.is in
    let marked = subst (λ (ns : List ℕ). (chosen : Row → Bool) → ((k : ℕ) (row : Row) → k < length c.deref-2.result.now → chosen (get_or c.deref-2.result.now k row) ≡ eqb (get_or ns k 0) (get_or ns at 0)) → c.mark_component.new.scratch ≡ map (λ row. row.channel.id) (filter chosen c.deref-2.result.now)) c.deref-3.ensures.value c.mark_component.ensures in
    marked_linked tree id c.deref-2.result.now numbers at c.mark_component.new.scratch c.deref-2.ensures.value c.self.invariant.proper.joined c.self.invariant.proper.rise c.self.invariant.numbered there inside named marked
    ∙ ap (λ (t : TreeState). linked t id) c.self.view_is

pub returns-clause-leads : goal.returns-clause-leads
returns-clause-leads c =
    let tree : TreeState = record { channels = c.self.inside.rows.items; links = c.self.inside.links.items; greatest = c.self.inside.greatest; limit = c.self.inside.limit } in
    let there = subst (λ (t : TreeState). is_there t.channels c.args.id ≡ true) (sym c.self.view_is) c.requires in
    subst (λ (t : TreeState). (other : ChannelId) → Contains (linked t c.args.id) other ↔ LeadTo t.links c.args.id other) c.self.view_is
    (λ other. linked_leads tree c.args.id other c.self.invariant.proper.joined there)
