-- What one step does to moments that are alike.
use Rattle.std.proofs.Common.{Bool, true, false, cond, Some}
use Rattle.v1_core.specs.declared.parser_error.ParserError.{ParserError}
use Rattle.v1_core.specs.Values.{Value}
use Rattle.v1_core.specs.Frames.{Moment, Reference, ticked, is_stopped, raised, going_on, put_at, with_inner, closed}
use Rattle.shard_laws.specs.Likeness.{Pairing, Like, like}

pub either : (k : Pairing) (b : Bool) {x y v w : Moment} → Like k x v → Like k y w → Like k (cond b x y) (cond b v w)
either k true h i = h
either k false h i = i

pub puts : (k : Pairing) (r : Reference) (v : Value) (m n : Moment) → Like k m n → Like k (put_at r v m) (put_at r v n)
puts k r v m _ (like _ s w a b) = like (put_at r v m) s w a b

pub raises : (k : Pairing) (e : ParserError) (m n : Moment) → Like k m n → Like k (raised e m) (raised e n)
raises k e m _ (like _ s w a b) = either k (is_stopped m) (like m s w a b) (like (record m { stopped = Some e }) s w a b)

pub ticks : (k : Pairing) (m n : Moment) → Like k m n → Like k (ticked m) (ticked n)
ticks k m _ (like _ s w a b) = like (ticked m) s _ a (k.ticks m.work w b)

pub inner : (k : Pairing) (v : Value) (m n : Moment) → Like k m n → Like k (with_inner v m) (with_inner v n)
inner k v m _ (like _ s w a b) = like (with_inner v m) s w a b

pub closes : (k : Pairing) (l o m n : Moment) → Like k l o → Like k m n → Like k (closed l m) (closed o n)
closes k l _ m _ (like _ t u c d) (like _ s w a b) = like (closed l m) s w a b

-- what doesn't run once an error stopped the parser
pub goes : (k : Pairing) (f : Moment → Moment) (m n : Moment) → Like k m n → Like k (f m) (f n) → Like k (going_on f m) (going_on f n)
goes k f m _ (like _ s w a b) done = either k (is_stopped m) (like m s w a b) done
