use Rattle.mum_control.proofs.Common.{◌∙◌, ◌&&◌, Bool, List, [], ◌∷◌, ◌++◌, cond, length, not, ap, sym, SessionId, is_listed, is_there}
use Rattle.mum_control.proofs.Listing.{listed_so, room_to_list}
use Rattle.mum_control.proofs.lagged.list_lagging.Goals as goal

pub push_reserved-requires : goal.push_reserved-requires
push_reserved-requires c =
    let state = c.args.state.now in
    let session = c.args.session in
    let value = c.is_to_list.ensures.value ∙ ap (λ (l : List SessionId). is_there state session && not (is_listed l session)) c.as_slice.ensures.value in
    room_to_list state c.args.sessions.now.items session c.is_to_list.result _ _ c.is_to_list.ensures.proper c.requires.listing value c.if-not-is_to_list.false
    (ap length (sym c.as_slice.ensures.value) ∙ c.as_slice.ensures.len) c.requires.room

pub returns-clause-items : goal.returns-clause-items
returns-clause-items c =
    let state = c.args.state.now in
    let session = c.args.session in
    let sessions = c.args.sessions.now.items in
    let value = c.is_to_list.ensures.value ∙ ap (λ (l : List SessionId). is_there state session && not (is_listed l session)) c.as_slice.ensures.value in
    let after = c.push_reserved.ensures.items ∙ ap (λ (b : Bool). cond b (sessions ++ session ∷ []) sessions) (sym c.if-not-is_to_list.false) in
    (listed_so state sessions c.push_reserved.new.self.items session c.is_to_list.result c.requires.listing value after).0

pub returns-clause-listing : goal.returns-clause-listing
returns-clause-listing c =
    let state = c.args.state.now in
    let session = c.args.session in
    let sessions = c.args.sessions.now.items in
    let value = c.is_to_list.ensures.value ∙ ap (λ (l : List SessionId). is_there state session && not (is_listed l session)) c.as_slice.ensures.value in
    let after = c.push_reserved.ensures.items ∙ ap (λ (b : Bool). cond b (sessions ++ session ∷ []) sessions) (sym c.if-not-is_to_list.false) in
    (listed_so state sessions c.push_reserved.new.self.items session c.is_to_list.result c.requires.listing value after).1

pub returns-then-not-is_to_list-clause-items : goal.returns-then-not-is_to_list-clause-items
returns-then-not-is_to_list-clause-items c =
    let state = c.args.state.now in
    let session = c.args.session in
    let sessions = c.args.sessions.now.items in
    let value = c.is_to_list.ensures.value ∙ ap (λ (l : List SessionId). is_there state session && not (is_listed l session)) c.as_slice.ensures.value in
    let after = ap (λ (b : Bool). cond b (sessions ++ session ∷ []) sessions) (sym c.if-not-is_to_list.true) in
    (listed_so state sessions sessions session c.is_to_list.result c.requires.listing value after).0
