use Rattle.mum_port.proofs.Common.{Bool, ◌∙◌, subst, sym, Settles, IsPosted, IsVoiced}
use Rattle.mum_port.proofs.{PassesKept.Handles-passes, PassesKept.Puts-queue, PassesKept.Puts-passes, PassesKept.Reads-passes, PassesKept.Settles-passes, PassesKept.TakesParcels-posted, PassesKept.TakesParcels-voiced, PassesKept.Writes-passes, Turned.did_turn}
use Rattle.mum_port.proofs.port.Port.step.Goals as goal

pub take-posted-requires-clause-posts : goal.take-posted-requires-clause-posts
take-posted-requires-clause-posts g c =
    let at_put = Puts-passes _ _ _ _ _ c.put-put.ensures in
    let at_read = Reads-passes _ _ _ _ c.read-read.ensures in
    let at_handle = Handles-passes _ _ _ _ _ _ c.handle-handled.ensures in
    subst (IsPosted c.args.posts.now) (sym (at_handle ∙ at_read ∙ at_put)) c.requires.posts

pub take-posted-requires-clause-voices : goal.take-posted-requires-clause-voices
take-posted-requires-clause-voices g c =
    let at_put = Puts-passes _ _ _ _ _ c.put-put.ensures in
    let at_read = Reads-passes _ _ _ _ c.read-read.ensures in
    let at_handle = Handles-passes _ _ _ _ _ _ c.handle-handled.ensures in
    subst (IsVoiced c.args.voices.now) (sym (at_handle ∙ at_read ∙ at_put)) c.requires.voices

pub returns-clause-chain : goal.returns-clause-chain
returns-clause-chain g c = record {
  put = c.put-put.result;
  read = c.read-read.result;
  handled = c.handle-handled.result;
  posted = c.take-posted.result.0;
  heard = c.take-posted.result.1;
  wrote = c.write-wrote.result;
  closed = c.settle-closed.result;
  after_put = c.put-put.new.self;
  after_read = c.read-read.new.self;
  after_handle = c.handle-handled.new.self;
  after_take = c.take-posted.new.self;
  after_write = c.write-wrote.new.self;
  puts = c.put-put.ensures;
  reads = c.read-read.ensures;
  handles = c.handle-handled.ensures;
  takes = c.take-posted.ensures;
  writes = c.write-wrote.ensures;
  settles =
      subst (λ (b : Bool). Settles g.L.Link.facts b c.write-wrote.new.self c.settle-closed.result c.settle-closed.new.self)
      c.is_closed-was_closed.ensures c.settle-closed.ensures;
  came_to = c.of.ensures;
}

pub returns-clause-turn : goal.returns-clause-turn
returns-clause-turn g c = did_turn (returns-clause-chain g c)

pub returns-clause-desk : goal.returns-clause-desk
returns-clause-desk g c = Puts-queue _ _ _ _ _ c.put-put.ensures ∙ c.requires.desk

pub returns-clause-posts : goal.returns-clause-posts
returns-clause-posts g c =
    let at_put = Puts-passes _ _ _ _ _ c.put-put.ensures in
    let at_read = Reads-passes _ _ _ _ c.read-read.ensures in
    let at_handle = Handles-passes _ _ _ _ _ _ c.handle-handled.ensures in
    let at_write = Writes-passes _ _ _ _ c.write-wrote.ensures in
    let at_end = Settles-passes _ _ _ _ _ c.settle-closed.ensures in
    subst (IsPosted c.args.posts.now) (sym (at_end ∙ at_write))
    (TakesParcels-posted _ _ _ _ _ _ _ c.take-posted.ensures
    (subst (IsPosted c.args.posts.now) (sym (at_handle ∙ at_read ∙ at_put)) c.requires.posts))

pub returns-clause-voices : goal.returns-clause-voices
returns-clause-voices g c =
    let at_put = Puts-passes _ _ _ _ _ c.put-put.ensures in
    let at_read = Reads-passes _ _ _ _ c.read-read.ensures in
    let at_handle = Handles-passes _ _ _ _ _ _ c.handle-handled.ensures in
    let at_write = Writes-passes _ _ _ _ c.write-wrote.ensures in
    let at_end = Settles-passes _ _ _ _ _ c.settle-closed.ensures in
    subst (IsVoiced c.args.voices.now) (sym (at_end ∙ at_write))
    (TakesParcels-voiced _ _ _ _ _ _ _ c.take-posted.ensures
    (subst (IsVoiced c.args.voices.now) (sym (at_handle ∙ at_read ∙ at_put)) c.requires.voices))
