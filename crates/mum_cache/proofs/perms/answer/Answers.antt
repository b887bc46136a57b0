use Rattle.mum_cache.proofs.Common.{◌≡◌, ◌∙◌, ℕ, true, List, Some, get_or, set, ap, arith, subst, sym, PermEntry, ArePermsSound, answers, index_of, kept_at, no_perm}
use Rattle.mum_cache.proofs.Answered.{answered_sound, answers_is, entry_is, get_same, index_within, kept_is, set_itself}
use Rattle.mum_cache.proofs.perms.answer.Goals as goal

pub returns-then-answers-clause-value : goal.returns-then-answers-clause-value
returns-then-answers-clause-value g c =
    let state = c.args.state.now in
    let entries : List PermEntry = c.args.entries.now in
    let entry : PermEntry = c.at-entry.result.now in
    let key = c.requires.key in
    let near = index_within state c.args.session c.args.channel c.args.key key in
    let at : entry ≡ kept_at state c.args.session c.args.channel entries =
    c.at-entry.ensures ∙ ap (λ (i : ℕ). get_or entries i entry) key.index
    ∙ get_same entries (index_of state c.args.session c.args.channel) entry no_perm (omega (arith, near, c.requires.room)) in
    let so : answers state c.args.session c.args.channel entry ≡ true =
    sym (answers_is state c.args.session c.args.channel c.args.key key entry) ∙ sym c.answers.ensures ∙ c.if-answers.true in
    kept_is state c.args.session c.args.channel c.args.key key entries c.requires.sound
    (ap (answers state c.args.session c.args.channel) (sym at) ∙ so)
    ∙ ap (λ (one : PermEntry). Some one.value.0) (sym at)

pub returns-then-answers-clause-kept : goal.returns-then-answers-clause-kept
returns-then-answers-clause-kept g c =
    let state = c.args.state.now in
    let entries : List PermEntry = c.args.entries.now in
    let entry : PermEntry = c.at-entry.result.now in
    let key = c.requires.key in
    let near = index_within state c.args.session c.args.channel c.args.key key in
    let at : entry ≡ kept_at state c.args.session c.args.channel entries =
    c.at-entry.ensures ∙ ap (λ (i : ℕ). get_or entries i entry) key.index
    ∙ get_same entries (index_of state c.args.session c.args.channel) entry no_perm (omega (arith, near, c.requires.room)) in
    let so : answers state c.args.session c.args.channel entry ≡ true =
    sym (answers_is state c.args.session c.args.channel c.args.key key entry) ∙ sym c.answers.ensures ∙ c.if-answers.true in
    sym (ap (λ (one : PermEntry). set entries (index_of state c.args.session c.args.channel) one)
    (sym (entry_is state c.args.session c.args.channel c.args.key key entry so) ∙ at)
    ∙ set_itself entries (index_of state c.args.session c.args.channel) no_perm (omega (arith, near, c.requires.room)))

put_kept : goal.returns-clause-kept
put_kept g c =
    let key = c.requires.key in
    c.put.ensures
    ∙ λ i. set c.args.entries.now (key.index i) (record { used = true; session = c.args.session; channel = c.args.channel; policy = key.policy i; count = key.count i; value = c.walked-value.result })

pub returns-clause-kept : goal.returns-clause-kept
returns-clause-kept g c = put_kept g c

pub returns-clause-sound : goal.returns-clause-sound
returns-clause-sound g c =
    subst (ArePermsSound c.args.state.now) (sym (put_kept g c))
    (answered_sound c.args.state.now c.args.session c.args.channel c.args.key c.requires.key c.args.entries.now c.walked-value.result c.requires.room
    c.walked-value.ensures.value c.requires.sound)

pub at-entry-requires : goal.at-entry-requires
at-entry-requires g c =
    let key = c.requires.key in
    let near = index_within c.args.state.now c.args.session c.args.channel c.args.key key in
    let index = key.index in
    omega (arith, near, index, c.requires.room)

pub put-requires : goal.put-requires
put-requires g c =
    let key = c.requires.key in
    let near = index_within c.args.state.now c.args.session c.args.channel c.args.key key in
    let index = key.index in
    omega (arith, near, index, c.requires.room)
