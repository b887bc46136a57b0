use Rattle.mum_tree.proofs.Common.{◌∙◌, sym, subst, Ordered}
use Rattle.mum_tree.proofs.{Linking.joined, Linking.left_by_ok, Linking.put_in, Joined.ordered_more}
use Rattle.mum_tree.proofs.links.put_link.Goals as goal

pub place_for-at-requires-2 : goal.place_for-at-requires-2
place_for-at-requires-2 c =
    let a = c.args.a in
    let b = c.args.b in
    let links = c.args.links.now.items in
    let one = left_by_ok c.insert.result c.unwrap.result c.insert.new.self.items _ _ c.insert.ensures.items c.unwrap.ensures in
    let seen = c.place_for-at.ensures in
    let put = put_in links c.deref.result.now c.insert.new.self.items c.place_for-at.result a b c.deref.ensures.value seen.within seen.before seen.here one in
    subst Ordered (sym (c.deref-2.ensures.value ∙ put)) (ordered_more a b links c.requires.unlinked c.requires.ordered)

pub returns-clause-made : goal.returns-clause-made
returns-clause-made c =
    let a = c.args.a in
    let b = c.args.b in
    let links = c.args.links.now.items in
    let one = left_by_ok c.insert.result c.unwrap.result c.insert.new.self.items _ _ c.insert.ensures.items c.unwrap.ensures in
    let two = left_by_ok c.insert-2.result c.unwrap-2.result c.insert-2.new.self.items _ _ c.insert-2.ensures.items c.unwrap-2.ensures in
    let seen = c.place_for-at.ensures in
    let seen-2 = c.place_for-at-2.ensures in
    joined links c.deref.result.now c.insert.new.self.items c.deref-2.result.now c.insert-2.new.self.items c.place_for-at.result c.place_for-at-2.result a b c.deref.ensures.value seen.within seen.before seen.here one c.deref-2.ensures.value seen-2.within seen-2.before seen-2.here two
