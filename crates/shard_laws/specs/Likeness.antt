-- Moments that are alike but for their store and their work (this project's own).
use Rattle.std.specs.Prelude.{◌≡◌, ℕ, ◌+◌, ◌%◌, ◌^◌, Bool, List, Option}
use Rattle.state_store.specs.State.{Contents, count, read, write, colour, colour_taken}
use Rattle.p416_syntax.specs.declared.controls.Action16.{Action16}
use Rattle.p416_syntax.specs.Names.{Name}
use Rattle.v1_core.specs.Values.{Value}
use Rattle.v1_core.specs.Frames.{Moment, Reference}
use Rattle.v1_core.specs.Surroundings.{Applied, World}
use Rattle.v1_core.specs.Expressions.{Valued, valued, Referred, referred}
use Rattle.v1_core.specs.Calls.{Given, Arguments}
use Rattle.v1_core.specs.declared.parser_error.ParserError.{ParserError}
use Rattle.v1_core.specs.Parsing.{Key, Keys, Onward, onward, finished, Parsed}
use Rattle.v1_core.specs.Passes.{Between}

-- Which stores and which counts of work stand for each other: what a program does to them keeps it, and what a program
-- reads of two such stores is the same.
pub record Pairing : Type 1 where
  pub stores : Contents → Contents → Type 0
  pub works : ℕ → ℕ → Type 0
  pub ticks : (a b : ℕ) → works a b → works ((a + 1) % 2 ^ 64) ((b + 1) % 2 ^ 64)
  pub counts : (c d : Contents) (object index octets : ℕ) → stores c d → stores (count c object index octets) (count d object index octets)
  pub writes : (c d : Contents) (object index number : ℕ) → stores c d → stores (write c object index number) (write d object index number)
  pub takes : (c d : Contents) (object index : ℕ) → stores c d → stores (colour_taken c object index) (colour_taken d object index)
  pub reads : (c d : Contents) (object index : ℕ) → stores c d → read c object index ≡ read d object index
  pub colours : (c d : Contents) (object index : ℕ) → stores c d → colour c object index ≡ colour d object index

-- a moment with another store and another count of work
abbrev pub other : Moment → Contents → ℕ → Moment
other m store work = record m { store = store; work = work }

-- moments that are alike
pub data Like (k : Pairing) : Moment → Moment → Type 0 where
  like : (m : Moment) (store : Contents) (work : ℕ) → k.stores m.store store → k.works m.work work → Like k m (other m store work)

-- a value, and moments that are alike
pub data LikeValued (k : Pairing) : Valued → Valued → Type 0 where
  like_valued : (v : Value) (m n : Moment) → Like k m n → LikeValued k (valued v m) (valued v n)

-- what is referred to, in moments that are alike
pub data LikeReferred (k : Pairing) : Referred → Referred → Type 0 where
  like_referred : (r : Reference) (m n : Moment) → Like k m n → LikeReferred k (referred r m) (referred r n)

-- what a table did, in moments that are alike
pub data LikeApplied (k : Pairing) : Applied → Applied → Type 0 where
  like_applied : (hit : Bool) (action : Option Name) (m n : Moment) → Like k m n → LikeApplied k (record { hit = hit; action = action; moment = m }) (record { hit = hit; action = action; moment = n })

-- actions and tables give moments that are alike
pub record LikeWorld (k : Pairing) (w : World) : Type 0 where
  pub acts : (a : Action16) (m n : Moment) → Like k m n → Like k (w.act a m) (w.act a n)
  pub applies : (text : Name) (m n : Moment) → Like k m n → LikeApplied k (w.apply text m) (w.apply text n)

-- arguments that were given, in moments that are alike
pub data LikeGiven (k : Pairing) : Given × Moment → Given × Moment → Type 0 where
  like_given : (g : Given) (m n : Moment) → Like k m n → LikeGiven k (g, m) (g, n)

-- the same of a list of arguments
pub data LikeArguments (k : Pairing) : Arguments → Arguments → Type 0 where
  like_arguments : (given : List Given) (m n : Moment) → Like k m n → LikeArguments k (record { given = given; moment = m }) (record { given = given; moment = n })

-- the same of the keys of a table
pub data LikeKeys (k : Pairing) : Keys → Keys → Type 0 where
  like_keys : (keys : List Key) (m n : Moment) → Like k m n → LikeKeys k (record { keys = keys; moment = m }) (record { keys = keys; moment = n })

-- where statements go on, in moments that are alike
pub data LikeOnward (k : Pairing) : Onward → Onward → Type 0 where
  like_onward : (called : Name) (m n : Moment) → Like k m n → LikeOnward k (onward called m) (onward called n)
  like_finished : (m n : Moment) → Like k m n → LikeOnward k (finished m) (finished n)

-- ends of a parser, in moments that are alike
pub data LikeParsed (k : Pairing) : Parsed → Parsed → Type 0 where
  like_parsed : (e : ParserError) (m n : Moment) → Like k m n → LikeParsed k (record { error = e; moment = m }) (record { error = e; moment = n })

-- what stands between two calls of a pass, whatever the last call's events
pub record LikeBetween (k : Pairing) (a b : Between) : Type 0 where
  pub store : k.stores a.store b.store
  pub work : k.works a.work b.work

-- one answer
pub record LikeAnswered {A : Type 0} (k : Pairing) (x y : A × Between) : Type 0 where
  pub answer : x.0 ≡ y.0
  pub left : LikeBetween k x.1 y.1
