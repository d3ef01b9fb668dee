-- What the calls of a pass answer and leave, from stores and counts of work that stand for each other.
use Rattle.std.proofs.Common.{◌≡◌, ℕ, ◌==◌, Bool, true, false, cond, List, refl, ap}
use Rattle.std.specs.Prelude.{option_map}
use Rattle.state_store.specs.Ports.{drop_port}
use Rattle.fabric.specs.declared.items.Item.{Item}
use Rattle.fabric.specs.declared.items.EgressEnd.{EgressEnd}
use Rattle.v1_core.specs.declared.block.Block.TheVariants.{Verify, Ingress, Egress, Compute, Deparse}
use Rattle.v1_core.specs.Values.{Value}
use Rattle.v1_core.specs.Frames.{Frame, Moment}
use Rattle.v1_core.specs.Surroundings.{Setting}
use Rattle.v1_core.specs.Parsing.{Parsed}
use Rattle.v1_core.specs.Passes.{Between, Held, moment_of, item_moment, answered, is_no_error, verified_and_run, handed_on, egress_spec, ingress_end, ingress16, reparse16, egress_frame, put_together, octets_left, leaves, asked_egress_clone, egress_end, egress16}
use Rattle.shard_laws.specs.Likeness.{Pairing, Like, like, LikeParsed, like_parsed, LikeBetween, LikeAnswered}
use Rattle.shard_laws.proofs.Leaves.{either}
use Rattle.shard_laws.proofs.Blocks.{controls}
use Rattle.shard_laws.proofs.Parsing.{parses}

module _ (k : Pairing) where
  pub begins_like : (a b : Between) → LikeBetween k a b → (f : Frame) (unparsed : List ℕ) → Like k (moment_of a f unparsed) (moment_of b f unparsed)
  begins_like a b h f unparsed = like (moment_of a f unparsed) b.store b.work h.store h.work

  answers : {A : Type 0} (answer : A) (m n : Moment) → Like k m n → LikeAnswered k (answered answer m) (answered answer n)
  answers answer m _ (like _ s w a b) = record { answer = refl; left = record { store = a; work = b } }

  ingress_runs : (c : Setting) (p q : Parsed) → LikeParsed k p q → Like k (verified_and_run c p) (verified_and_run c q)
  ingress_runs c _ _ (like_parsed e m n h) =
      controls k c Ingress _ _ (either k (is_no_error e) (controls k c Verify m n h) h)

  ingress_ends : (c : Setting) (port : ℕ) (m n : Moment) → Like k m n → LikeAnswered k (ingress_end c port m) (ingress_end c port n)
  ingress_ends c port m _ (like _ s w a b) = record { answer = refl; left = record { store = a; work = b } }

  pub ingress_like : (c : Setting) (a b : Between) (came : Item Value) → LikeBetween k a b → LikeAnswered k (ingress16 c a came) (ingress16 c b came)
  unfolding ingress16
  ingress_like c a b came h =
      ingress_ends c came.port _ _ (ingress_runs c _ _ (parses k c (item_moment c a came) (item_moment c b came) (begins_like a b h _ _)))

  reparse_ends : (port : ℕ) (p q : Parsed) → LikeParsed k p q → LikeAnswered k (answered (handed_on port p.moment) p.moment) (answered (handed_on port q.moment) q.moment)
  reparse_ends port _ _ (like_parsed e m _ (like _ s w a b)) = record { answer = refl; left = record { store = a; work = b } }

  pub reparse_like : (c : Setting) (a b : Between) (came : Item Value) → LikeBetween k a b → LikeAnswered k (reparse16 c a came) (reparse16 c b came)
  unfolding reparse16
  reparse_like c a b came h =
      reparse_ends came.port _ _ (parses k c (item_moment c a came) (item_moment c b came) (begins_like a b h _ _))

  assembled : (c : Setting) (m n : Moment) → Like k m n → Like k (put_together c m) (put_together c n)
  assembled c m n h = controls k c Deparse _ _ (controls k c Compute m n h)

  same_octets : (m n : Moment) → Like k m n → octets_left m ≡ octets_left n
  same_octets m _ (like _ s w a b) = refl

  left_like : (m n : Moment) → Like k m n → LikeBetween k (record { store = m.store; work = m.work; events = m.frame.events }) (record { store = n.store; work = n.work; events = n.frame.events })
  left_like m _ (like _ s w a b) = record { store = a; work = b }

  either_answered : {A : Type 0} (b : Bool) {x y v w : A × Between} → LikeAnswered k x v → LikeAnswered k y w → LikeAnswered k (cond b x y) (cond b v w)
  either_answered true h i = h
  either_answered false h i = i

  egress_ends : (c : Setting) (arrived : ℕ) (m n : Moment) → Like k m n → LikeAnswered k (egress_end c arrived m) (egress_end c arrived n)
  egress_ends c arrived m _ (like _ s w a b) =
      let h = like m s w a b in
      let done = assembled c m _ h in
      let clone = option_map (asked_egress_clone c.syntax arrived m) m.frame.clone_e2e in
      either_answered (egress_spec m.frame == drop_port) (record { answer = refl; left = left_like m _ h }) (record {
        answer = ap (λ (octets : List ℕ). let ended : EgressEnd Value Held = record { clone = clone; end = leaves c m.frame octets m.frame.recirculate } in ended) (same_octets _ _ done);
        left = left_like _ _ done;
      })

  pub egress_like : (c : Setting) (a b : Between) (held : Held) (port kind : ℕ) → LikeBetween k a b → LikeAnswered k (egress16 c a held port kind) (egress16 c b held port kind)
  unfolding egress16
  egress_like c a b held port kind h =
      egress_ends c held.port _ _ (controls k c Egress _ _ (begins_like a b h (egress_frame held port kind) held.unparsed))
