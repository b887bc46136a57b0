-- Views of small states, worked out by hand.
use Rattle.mum_viewer.proofs.Common.{◌≡◌, List, [], ◌∷◌, ◌++◌, codes, refl, digits, serde_json_on_literals, Edit, empty_state, join, state, view_text}

abbrev two_joined : List Edit
two_joined = join 1 0 (codes "ann") ∷ join 2 1 (codes "bob") ∷ []

pub record ViewsShow : Type 0 where
  pub the_root_alone :
      view_text empty_state
      ≡ codes "{\"channels\":[{\"id\":0,\"links\":[],\"name\":\"Root\",\"parent\":null,\"temporary\":false}],\"revision\":0,\"users\":[]}" ++ 10 ∷ []
  pub two_users :
      view_text (state two_joined)
      ≡ codes "{\"channels\":[{\"id\":0,\"links\":[],\"name\":\"Root\",\"parent\":null,\"temporary\":false}],\"revision\":2,\"users\":[{\"account\":null,\"channel\":0,\"deaf\":false,\"listens\":[],\"mute\":false,\"name\":\"ann\",\"session\":1},{\"account\":null,\"channel\":0,\"deaf\":false,\"listens\":[],\"mute\":false,\"name\":\"bob\",\"session\":2}]}" ++ 10 ∷ []

pub views_show : ViewsShow
unfolding state digits serde_json_on_literals
views_show = record { the_root_alone = refl; two_users = refl }
