use Rattle.mum_bans.proofs.Common.{◌∷◌, [], ◌++◌, sym, ap, ◌∙◌, Ban, last_bans, is_sound_book}
use Rattle.mum_bans.proofs.Soundness.{added_sound}
use Rattle.mum_bans.proofs.book.BanBook.add.Goals as goal

pub invariant_of-self : goal.invariant_of-self
invariant_of-self c =
    let short = c.self.invariant.2 c.in-Some.reason (sym c.take.ensures.value ∙ c.in-Some.is) in
    let is = c.keep_last.ensures ∙ ap last_bans (c.push_reserved.ensures.items ∙ ap (λ (ban : Ban). c.self.inside.bans.items ++ ban ∷ []) c.added_ban-ban.ensures.ban) in (
      ap is_sound_book is ∙ added_sound c.self.inside.bans.items c.args.address c.in-Some.reason c.args.moment c.self.invariant.0 c.added_ban-ban.ensures.whole short,
      λ x some. absurd (let none = sym c.take.ensures.after ∙ some in cc),
      λ x some. absurd (let none = sym c.take.ensures.after ∙ some in cc),
    )
