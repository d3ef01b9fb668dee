-- The test of clone sessions by marks is right.
use Rattle.std.proofs.Common.{◌≡◌, ◌↔◌, IsTrue, ℕ, zero, suc, ◌<◌, Bool, true, false, not, leb, ◌&&◌, List, [], ◌∷◌, length, replicate, drop, get_or, All, refl, sym, ◌∙◌, ap, arith}
use Rattle.std.proofs.Math.ListN.{set}
use Rattle.std.proofs.lemmas.Bool.{leb-true, le-leb, not-true, not_from_false, true≢false}
use Rattle.std.proofs.lemmas.List.{get_or-set_other, get_or-replicate}
use Rattle.std.proofs.lemmas.List.Elements.{All-nil, All-cons, All-head, All-tail}
use Rattle.state_store.specs.declared.ports.Session.{Session}
use Rattle.state_store.specs.Ports.{greatest_port, greatest_session, IsSession, AreDistinct, AreSessions}
use Rattle.state_store.specs.internal.Marks.{is_unmarked, are_unmarked}

and_left : (a b : Bool) → (a && b) ≡ true → a ≡ true
and_left true b both = refl
and_left false b both = absurd (true≢false (sym both))

and_right : (a b : Bool) → (a && b) ≡ true → b ≡ true
and_right true b both = both
and_right false b both = absurd (true≢false (sym both))

and_both : (a b : Bool) → a ≡ true → b ≡ true → (a && b) ≡ true
and_both true b first second = second
and_both false b first second = first

-- the session's mark isn't set
abbrev IsNew : List Bool → Session → Type 0
IsNew seen session = get_or seen session.number true ≡ false

new_from : (seen : List Bool) (session : Session) → is_unmarked seen session ≡ true → IsSession session × IsNew seen session
new_from seen session is =
    let ranges = and_left (leb session.number greatest_session && leb session.port greatest_port) (not (get_or seen session.number true)) is in
    let mark = and_right (leb session.number greatest_session && leb session.port greatest_port) (not (get_or seen session.number true)) is in (
      record {
        number = leb-true session.number greatest_session (and_left (leb session.number greatest_session) (leb session.port greatest_port) ranges);
        port = leb-true session.port greatest_port (and_right (leb session.number greatest_session) (leb session.port greatest_port) ranges);
      },
      not-true (get_or seen session.number true) mark,
    )

from_new : (seen : List Bool) (session : Session) → IsSession session → IsNew seen session → is_unmarked seen session ≡ true
from_new seen session is new =
    and_both (leb session.number greatest_session && leb session.port greatest_port) (not (get_or seen session.number true))
    (and_both (leb session.number greatest_session) (leb session.port greatest_port) (le-leb session.number greatest_session is.number) (le-leb session.port greatest_port is.port))
    (not_from_false (get_or seen session.number true) new)

-- a mark that isn't set, once another was set, is another one
still_new : (seen : List Bool) (n m : ℕ) → get_or (set seen n true) m true ≡ false → (m ≡ n → ⊥) × (get_or seen m true ≡ false)
still_new [] n m new = absurd (true≢false new)
still_new (mark ∷ marks) zero zero new = absurd (true≢false new)
still_new (mark ∷ marks) zero (suc m) new = (λ same. absurd (omega (arith, same)), new)
still_new (mark ∷ marks) (suc n) zero new = (λ same. absurd (omega (arith, same)), new)
still_new (mark ∷ marks) (suc n) (suc m) new = let rest = still_new marks n m new in (λ same. rest.0 (omega (arith, same)), rest.1)

-- no other session has the number of this one
abbrev IsApart : Session → List Session → Type 0
IsApart session others = (k : ℕ) (d : Session) → k < length others → (get_or others k d).number ≡ session.number → ⊥

distinct_cons : (session : Session) (others : List Session) → AreDistinct others → IsApart session others → (i j : ℕ) (d : Session) → i < length (session ∷ others) → j < length (session ∷ others) → (get_or (session ∷ others) i d).number ≡ (get_or (session ∷ others) j d).number → i ≡ j
distinct_cons session others distinct apart zero zero d in_i in_j same = refl
distinct_cons session others distinct apart zero (suc j) d in_i in_j same = absurd (apart j d (omega (arith, in_j)) (sym same))
distinct_cons session others distinct apart (suc i) zero d in_i in_j same = absurd (apart i d (omega (arith, in_i)) same)
distinct_cons session others distinct apart (suc i) (suc j) d in_i in_j same =
    ap (λ (n : ℕ). suc n) (distinct i j d (omega (arith, in_i)) (omega (arith, in_j)) same)

distinct_tail : (session : Session) (others : List Session) → AreDistinct (session ∷ others) → AreDistinct others
distinct_tail session others distinct i j d in_i in_j same =
    let next : suc i ≡ suc j = distinct (suc i) (suc j) d (omega (arith, in_i)) (omega (arith, in_j)) same in omega (arith, next)

distinct_head : (session : Session) (others : List Session) → AreDistinct (session ∷ others) → IsApart session others
distinct_head session others distinct k d inside same =
    let next : suc k ≡ 0 = distinct (suc k) 0 d (omega (arith, inside)) (omega arith) same in absurd (omega (arith, next))

sound : (seen : List Bool) (sessions : List Session) → are_unmarked seen sessions ≡ true → AreSessions sessions × All (IsNew seen) sessions
sound seen [] is = (record { each = All-nil IsSession; distinct = λ i j d in_i in_j same. absurd (omega (arith, in_i)) }, All-nil (IsNew seen))
sound seen (session ∷ others) is =
    let one = new_from seen session (and_left (is_unmarked seen session) (are_unmarked (set seen session.number true) others) is) in
    let rest = sound (set seen session.number true) others (and_right (is_unmarked seen session) (are_unmarked (set seen session.number true) others) is) in
    let apart : IsApart session others = λ k d inside same. (still_new seen session.number (get_or others k d).number (rest.1 k d inside)).0 same in (
      record {
        each = All-cons IsSession session others one.0 rest.0.each;
        distinct = distinct_cons session others rest.0.distinct apart;
      },
      All-cons (IsNew seen) session others one.1 (λ k d inside. (still_new seen session.number (get_or others k d).number (rest.1 k d inside)).1),
    )

complete : (seen : List Bool) (sessions : List Session) → All IsSession sessions → AreDistinct sessions → All (IsNew seen) sessions → are_unmarked seen sessions ≡ true
complete seen [] each distinct new = refl
complete seen (session ∷ others) each distinct new =
    let apart = distinct_head session others distinct in
    let rest : All (IsNew (set seen session.number true)) others = λ k d inside.
    get_or-set_other seen session.number (get_or others k d).number true true (apart k d inside) ∙ All-tail (IsNew seen) session others new k d inside in
    and_both (is_unmarked seen session) (are_unmarked (set seen session.number true) others)
    (from_new seen session (All-head IsSession session others each) (All-head (IsNew seen) session others new))
    (complete (set seen session.number true) others (All-tail IsSession session others each) (distinct_tail session others distinct) rest)

-- with a mark for each number, and none set
pub are_sessions_if : (numbers : ℕ) (sessions : List Session) (are : Bool) → greatest_session < numbers → are ≡ are_unmarked (replicate numbers false) sessions → IsTrue are ↔ AreSessions sessions
are_sessions_if numbers sessions are enough is = (
  λ yes. (sound (replicate numbers false) sessions (sym is ∙ yes)).0,
  λ all. is ∙ complete (replicate numbers false) sessions all.each all.distinct (λ k d inside. get_or-replicate numbers (get_or sessions k d).number false true (omega (arith, enough, (all.each k d inside).number))),
)

-- a session that the test refuses
pub turn_refuses : (seen : List Bool) (sessions : List Session) (i : ℕ) (d : Session) → i < length sessions → is_unmarked seen (get_or sessions i d) ≡ false → are_unmarked seen (drop i sessions) ≡ false
turn_refuses seen [] i d inside is = absurd (omega (arith, inside))
turn_refuses seen (session ∷ others) zero d inside is = ap (λ (b : Bool). b && are_unmarked (set seen session.number true) others) is
turn_refuses seen (session ∷ others) (suc i) d inside is = turn_refuses seen others i d (omega (arith, inside)) is
