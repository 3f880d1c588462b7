-- A value is lawful exactly if its arrays hold items of their kinds and its maps' keys differ.
use Rattle.std.proofs.Common.{◌≡◌, Result, Ok, Err, OnOk, IfErr, inl, inr}
use Rattle.amqp_types.specs.declared.write_fault.WriteFault.{WriteFault}
use Rattle.amqp_types.specs.declared.write_fault.WriteFault.TheVariants.{NoMemory}
use Rattle.amqp_types.specs.Trees.{Tree, Number, Octets, ListOf, MapOf, ArrayOf, Described, Trees, none, more, Pairs, no_pair, pair, IsLawful, AreLawful, ArePairsLawful}
use Rattle.amqp_types.specs.Lawful.{ItemsAgree, AllAgree, PairsAgree, KeysApart, KeysDiffer, AllDiffer, PairsDiffer}
use Rattle.amqp_types.specs.Canonical.{Fits}
use Rattle.amqp_types.specs.Parts.{IsRefusedFor}

mutual
  lawful_agrees : (t : Tree) → IsLawful t → ItemsAgree t
  lawful_agrees (Number k n) l = tt
  lawful_agrees (Octets k octets) l = tt
  lawful_agrees (ListOf ts) l = all_agree ts l
  lawful_agrees (MapOf ps) l = pairs_agree ps l
  lawful_agrees (ArrayOf ds k ts) l = (all_agree ds l.0, all_agree ts l.1, l.2)
  lawful_agrees (Described d t) l = (lawful_agrees d l.0, lawful_agrees t l.1)

  all_agree : (ts : Trees) → AreLawful ts → AllAgree ts
  all_agree none l = tt
  all_agree (more t ts) l = (lawful_agrees t l.0, all_agree ts l.1)

  pairs_agree : (ps : Pairs) → ArePairsLawful ps → PairsAgree ps
  pairs_agree no_pair l = tt
  pairs_agree (pair k v ps) l = (lawful_agrees k l.0, lawful_agrees v l.1, pairs_agree ps l.3)

keys_apart : (ps : Pairs) → ArePairsLawful ps → KeysApart ps
keys_apart no_pair l = tt
keys_apart (pair k v ps) l = (l.2, keys_apart ps l.3)

mutual
  lawful_differs : (t : Tree) → IsLawful t → KeysDiffer t
  lawful_differs (Number k n) l = tt
  lawful_differs (Octets k octets) l = tt
  lawful_differs (ListOf ts) l = all_differ ts l
  lawful_differs (MapOf ps) l = (keys_apart ps l, pairs_differ ps l)
  lawful_differs (ArrayOf ds k ts) l = (all_differ ds l.0, all_differ ts l.1)
  lawful_differs (Described d t) l = (lawful_differs d l.0, lawful_differs t l.1)

  all_differ : (ts : Trees) → AreLawful ts → AllDiffer ts
  all_differ none l = tt
  all_differ (more t ts) l = (lawful_differs t l.0, all_differ ts l.1)

  pairs_differ : (ps : Pairs) → ArePairsLawful ps → PairsDiffer ps
  pairs_differ no_pair l = tt
  pairs_differ (pair k v ps) l = (lawful_differs k l.0, lawful_differs v l.1, pairs_differ ps l.3)

mutual
  lawful_from : (t : Tree) → ItemsAgree t → KeysDiffer t → IsLawful t
  lawful_from (Number k n) a d = tt
  lawful_from (Octets k octets) a d = tt
  lawful_from (ListOf ts) a d = all_from ts a d
  lawful_from (MapOf ps) a d = pairs_from ps a d.0 d.1
  lawful_from (ArrayOf ds k ts) a d = (all_from ds a.0 d.0, all_from ts a.1 d.1, a.2)
  lawful_from (Described h t) a d = (lawful_from h a.0 d.0, lawful_from t a.1 d.1)

  all_from : (ts : Trees) → AllAgree ts → AllDiffer ts → AreLawful ts
  all_from none a d = tt
  all_from (more t ts) a d = (lawful_from t a.0 d.0, all_from ts a.1 d.1)

  pairs_from : (ps : Pairs) → PairsAgree ps → KeysApart ps → PairsDiffer ps → ArePairsLawful ps
  pairs_from no_pair a apart d = tt
  pairs_from (pair k v ps) a apart d = (lawful_from k a.0 d.0, lawful_from v a.1 d.1, apart.0, pairs_from ps a.2 apart.1 d.2)

-- a value whose items and keys pass is lawful
pub lawful_on_ok : (t : Tree) (r : Result (Unit {0}) WriteFault) → OnOk r (ItemsAgree t) → OnOk r (KeysDiffer t) → OnOk r (IsLawful t)
lawful_on_ok t (Ok u) a d = lawful_from t a d
lawful_on_ok t (Err e) a d = tt

refused_memory : (t : Tree) (e : WriteFault) → IsRefusedFor e t → IsLawful t → Fits t → e ≡ NoMemory
refused_memory t e (inl refused) l f = refused
refused_memory t e (inr (inl long)) l f = absurd (long.1 f)
refused_memory t e (inr (inr (inl wrong))) l f = absurd (wrong.1 (lawful_agrees t l))
refused_memory t e (inr (inr (inr double))) l f = absurd (double.1 (lawful_differs t l))

-- a lawful value that fits is refused for want of memory alone
pub memory_alone : (t : Tree) (r : Result (Unit {0}) WriteFault) → IfErr r (λ e. IsRefusedFor e t) → IsLawful t → Fits t → IfErr r (λ e. e ≡ NoMemory)
memory_alone t (Ok u) h l f = tt
memory_alone t (Err e) h l f = refused_memory t e h l f
