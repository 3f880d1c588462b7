-- What is on its way is units.
use Rattle.std.proofs.Common.{◌≡◌, ℕ, ◌^◌, ◌<◌, ◌≤◌, Bool, true, false, cond, leb, List, [], ◌∷◌, ◌++◌, length, map, refl, sym, ap, subst, ◌∙◌, arith, append_assoc}
use Rattle.std.specs.List.{flat_map}
use Rattle.std.proofs.lemmas.Bool.{leb-true}
use Rattle.std.proofs.lemmas.Grind.{flat_map-append}
use Rattle.std.proofs.lemmas.List.{map-append}
use Rattle.amqp_frame.specs.Units.{StreamUnit, FrameUnit, bytes_of, AreUnits, due_after}
use Rattle.amqp_frame.specs.declared.units.Stage.TheVariants.{Frames}
use Rattle.amqp_perform.specs.Said.{Said, said_frame}
use Rattle.amqp_session.specs.Frames as of_session
use Rattle.amqp_endpoint.specs.Configs.{Configured, bounds_for}
use Rattle.amqp_endpoint.specs.Connections.{lesser}
use Rattle.amqp_endpoint.specs.Lengths.{said_most}
use Rattle.amqp_endpoint.specs.Replies as of_endpoint
use Rattle.amqp_endpoint.proofs.Replies.{open_most, begin_most, attach_most, flow_most, link_flow_most, disposition_most}
use Rattle.amqp_send.specs.Frames.{IsOpening}
use Rattle.amqp_send.specs.Sendings.{SendTerms}
use Rattle.amqp_send.specs.Sendings as of_sender
use Rattle.amqp_pair.specs.Called.{flow_speaks}
use Rattle.amqp_pair.specs.Items.{Far, AwaitsOpen, AwaitsBegin, AwaitsAttach, Goes, due_at, Item, OwnHeader, OwnOpen, OwnBegin, OwnAttach, Speaks, item_unit, words_in, Leads, Reply, ItsHeader, ItsOpen, ItsBegin, ItsAttach, States, Disposes, begun_with, reply_unit, flows_in, LeadsBack, AreSaid}
use Rattle.amqp_pair.specs.Reading.{attaching_of}
use Rattle.amqp_pair.specs.Served.{AreTerms}
use Rattle.amqp_pair.specs.Words.{Word, Sends, Answers, text_in, AreRight}
use Rattle.amqp_pair.specs.World.{Flow}
use Rattle.amqp_pair.proofs.Below.{Below}

-- Lists. ------------------------------------------------------------------------------------------------------------------

-- what is joined behind what is there
pub more_bytes : (front pipe unsent text whole more : List ℕ) → front ++ (pipe ++ unsent) ≡ whole → text ≡ more → front ++ (pipe ++ (unsent ++ text)) ≡ whole ++ more
more_bytes front pipe unsent text whole more joined e =
    ap (λ (z : List ℕ). front ++ z) (sym (append_assoc pipe unsent text)) ∙ sym (append_assoc front (pipe ++ unsent) text)
    ∙ ap (λ (z : List ℕ). z ++ text) joined ∙ ap (λ (z : List ℕ). whole ++ z) e

pub units_joined : {A : Type 0} (f : A → StreamUnit) (xs ys : List A) → flat_map bytes_of (map f (xs ++ ys)) ≡ flat_map bytes_of (map f xs) ++ flat_map bytes_of (map f ys)
units_joined f xs ys = ap (λ (z : List StreamUnit). flat_map bytes_of z) (map-append f xs ys) ∙ flat_map-append bytes_of (map f xs) (map f ys)

-- a list that is mapped to one with a first item has a first item
pub record IsCons {A : Type 0} (f : A → StreamUnit) (xs : List A) (u : StreamUnit) (us : List StreamUnit) : Type 0 where
  pub first : A
  pub rest : List A
  pub is : xs ≡ first ∷ rest
  pub unit : f first ≡ u
  pub others : map f rest ≡ us

abbrev first_or : StreamUnit → List StreamUnit → StreamUnit
first_or d [] = d
first_or d (u ∷ us) = u

abbrev others_of : List StreamUnit → List StreamUnit
others_of [] = []
others_of (u ∷ us) = us

pub cons_of : {A : Type 0} (f : A → StreamUnit) (xs : List A) (u : StreamUnit) (us : List StreamUnit) → map f xs ≡ u ∷ us → IsCons f xs u us
cons_of f [] u us e = absurd (cc e)
cons_of f (x ∷ xs) u us e = record { first = x; rest = xs; is = refl; unit = ap (λ (z : List StreamUnit). first_or u z) e; others = ap (λ (z : List StreamUnit). others_of z) e }

-- Towards the endpoint. -----------------------------------------------------------------------------------------------------

pub leads_behind : (e f g : Far) (xs ys : List Item) → Leads e xs f → Leads f ys g → Leads e (xs ++ ys) g
leads_behind e f g [] ys a b = subst (λ (z : Far). Leads z ys g) (sym a) b
leads_behind e f g (OwnHeader ∷ xs) ys a b = (a.0, leads_behind AwaitsOpen f g xs ys a.1 b)
leads_behind e f g (OwnOpen ∷ xs) ys a b = (a.0, leads_behind AwaitsBegin f g xs ys a.1 b)
leads_behind e f g (OwnBegin ∷ xs) ys a b = (a.0, leads_behind AwaitsAttach f g xs ys a.1 b)
leads_behind e f g (OwnAttach ∷ xs) ys a b = (a.0, leads_behind Goes f g xs ys a.1 b)
leads_behind e f g (Speaks word ∷ xs) ys a b = (a.0, leads_behind Goes f g xs ys a.1 b)

pub words_behind : (xs ys : List Item) → words_in (xs ++ ys) ≡ words_in xs ++ words_in ys
words_behind [] ys = refl
words_behind (OwnHeader ∷ xs) ys = words_behind xs ys
words_behind (OwnOpen ∷ xs) ys = words_behind xs ys
words_behind (OwnBegin ∷ xs) ys = words_behind xs ys
words_behind (OwnAttach ∷ xs) ys = words_behind xs ys
words_behind (Speaks word ∷ xs) ys = ap (λ (z : List Word). word ∷ z) (words_behind xs ys)

pub words_lead : (words : List Word) → Leads Goes (map Speaks words) Goes
words_lead [] = refl
words_lead (word ∷ words) = (refl, words_lead words)

pub words_of : (words : List Word) → words_in (map Speaks words) ≡ words
words_of [] = refl
words_of (word ∷ words) = ap (λ (z : List Word). word ∷ z) (words_of words)

pub words_text : (terms : SendTerms) (words : List Word) → flat_map text_in words ≡ flat_map bytes_of (map (item_unit terms) (map Speaks words))
words_text terms [] = refl
words_text terms (word ∷ words) = ap (λ (z : List ℕ). text_in word ++ z) (words_text terms words)

pub rights_more : (small most : ℕ) (words : List Word) → small ≤ most → AreRight small words → AreRight most words
rights_more small most [] le a = tt
rights_more small most (Sends id begun more payload ∷ words) le a = ((a.0.0, omega (arith, a.0.1, le)), rights_more small most words le a.1)
rights_more small most (Answers f drain ∷ words) le a = ((a.0.0, a.0.1, a.0.2, omega (arith, a.0.3, le)), rights_more small most words le a.1)

-- after each unit of an end frames are due
pub item_due : (terms : SendTerms) (item : Item) → due_after (item_unit terms item) ≡ Frames
item_due terms OwnHeader = refl
item_due terms OwnOpen = refl
item_due terms OwnBegin = refl
item_due terms OwnAttach = refl
item_due terms (Speaks word) = refl

-- Towards the sender. -------------------------------------------------------------------------------------------------------

pub back_behind : (r f g : Far) (xs ys : List Reply) → LeadsBack r xs f → LeadsBack f ys g → LeadsBack r (xs ++ ys) g
back_behind r f g [] ys a b = subst (λ (z : Far). LeadsBack z ys g) (sym a) b
back_behind r f g (ItsHeader ∷ xs) ys a b = (a.0, back_behind AwaitsOpen f g xs ys a.1 b)
back_behind r f g (ItsOpen ∷ xs) ys a b = (a.0, back_behind AwaitsBegin f g xs ys a.1 b)
back_behind r f g (ItsBegin ∷ xs) ys a b = (a.0, back_behind Goes f g xs ys a.1 b)
back_behind r f g (ItsAttach ∷ xs) ys a b = (a.0, back_behind Goes f g xs ys a.1 b)
back_behind r f g (States x ∷ xs) ys a b = (a.0, back_behind Goes f g xs ys a.1 b)
back_behind r f g (Disposes id settled outcome ∷ xs) ys a b = (a.0, back_behind Goes f g xs ys a.1 b)

pub flows_behind : (config : Configured) (xs ys : List Reply) → flows_in config (xs ++ ys) ≡ flows_in config xs ++ flows_in config ys
flows_behind config [] ys = refl
flows_behind config (ItsHeader ∷ xs) ys = flows_behind config xs ys
flows_behind config (ItsOpen ∷ xs) ys = flows_behind config xs ys
flows_behind config (ItsBegin ∷ xs) ys = ap (λ (z : List Flow). flows_in config (ItsBegin ∷ []) ++ z) (flows_behind config xs ys)
flows_behind config (ItsAttach ∷ xs) ys = flows_behind config xs ys
flows_behind config (States f ∷ xs) ys = ap (λ (z : List Flow). f ∷ z) (flows_behind config xs ys)
flows_behind config (Disposes id settled outcome ∷ xs) ys = flows_behind config xs ys

pub said_behind : (xs ys : List Reply) → AreSaid xs → AreSaid ys → AreSaid (xs ++ ys)
said_behind [] ys a b = b
said_behind (x ∷ xs) ys a b = (a.0, said_behind xs ys a.1 b)

pub reply_due : (config : Configured) (terms : SendTerms) (reply : Reply) → due_after (reply_unit config terms reply) ≡ Frames
reply_due config terms ItsHeader = refl
reply_due config terms ItsOpen = refl
reply_due config terms ItsBegin = refl
reply_due config terms ItsAttach = refl
reply_due config terms (States f) = refl
reply_due config terms (Disposes id settled outcome) = refl

-- The lesser of a number and none. ------------------------------------------------------------------------------------------

pub lesser_none : (n : ℕ) → lesser n 0 ≡ 0
lesser_none n = by (leb n 0) refl
  where
    by : (b : Bool) → leb n 0 ≡ b → cond b n 0 ≡ 0
    by true e = omega (arith, leb-true n 0 e)
    by false e = refl

module _ (law : Below) where
  -- Units. ------------------------------------------------------------------------------------------------------------------

  pub items_units : (limit : ℕ) (terms : SendTerms) (e f : Far) (items : List Item) → 512 ≤ limit → limit < 2 ^ 32 → IsOpening terms → Leads e items f → AreRight limit (words_in items) → AreUnits limit (due_at e) (map (item_unit terms) items)
  items_units limit terms e f [] least lt o l right = tt
  items_units limit terms e f (OwnHeader ∷ items) least lt o l right =
      subst (λ (z : Far). AreUnits limit (due_at z) (map (item_unit terms) (OwnHeader ∷ items))) (sym l.0) (refl, items_units limit terms AwaitsOpen f items least lt o l.1 right)
  items_units limit terms e f (OwnOpen ∷ items) least lt o l right =
      subst (λ (z : Far). AreUnits limit (due_at z) (map (item_unit terms) (OwnOpen ∷ items))) (sym l.0)
      ((law.frame 0 limit (of_sender.open_said terms.container_id) [] (omega arith) (omega (arith, o.first)) (omega (arith, o.first, least))).0, items_units limit terms AwaitsBegin f items least lt o l.1 right)
  items_units limit terms e f (OwnBegin ∷ items) least lt o l right =
      subst (λ (z : Far). AreUnits limit (due_at z) (map (item_unit terms) (OwnBegin ∷ items))) (sym l.0)
      ((law.frame 0 limit of_sender.begin_said [] (omega arith) (omega (arith, o.second)) (omega (arith, o.second, least))).0, items_units limit terms AwaitsAttach f items least lt o l.1 right)
  items_units limit terms e f (OwnAttach ∷ items) least lt o l right =
      subst (λ (z : Far). AreUnits limit (due_at z) (map (item_unit terms) (OwnAttach ∷ items))) (sym l.0)
      ((law.frame 0 limit (of_sender.attach_said terms.name) [] (omega arith) (omega (arith, o.third)) (omega (arith, o.third, least))).0, items_units limit terms Goes f items least lt o l.1 right)
  items_units limit terms e f (Speaks word ∷ items) least lt o l right =
      subst (λ (z : Far). AreUnits limit (due_at z) (map (item_unit terms) (Speaks word ∷ items))) (sym l.0)
      ((law.words limit limit Frames [] (word ∷ []) (omega arith) lt (right.0, tt) tt refl).0, items_units limit terms Goes f items least lt o l.1 right.1)

  -- a frame of the endpoint
  short_frame : (x : Said) → said_most x ≤ 4096 → AreUnits 4096 Frames (FrameUnit (said_frame 0 x []) ∷ [])
  short_frame x most = ((law.frame 0 4096 x [] (omega arith) (omega (arith, law.long 0 x, most)) (omega (arith, law.long 0 x, most))).0, tt)

  flow_short : (b : Bool) (next window count credit : ℕ) (drain : Bool) → said_most (cond b (of_session.link_flow_said next window 0 count credit drain) (of_session.flow_said next window)) ≤ 4096
  flow_short true next window count credit drain = omega (arith, link_flow_most next window 0 count credit drain)
  flow_short false next window count credit drain = omega (arith, flow_most next window)

  attach_short : (config : Configured) (terms : SendTerms) (longest : ℕ) → length terms.name ≤ 255 → said_most (of_session.attach_said longest (attaching_of config terms.name)) ≤ 4096
  attach_short config terms longest name = omega (arith, attach_most longest (attaching_of config terms.name) name (omega arith))

  pub replies_units : (config : Configured) (terms : SendTerms) (r g : Far) (replies : List Reply) → AreTerms config terms → LeadsBack r replies g → AreUnits 4096 (due_at r) (map (reply_unit config terms) replies)
  replies_units config terms r g [] a l = tt
  replies_units config terms r g (ItsHeader ∷ replies) a l =
      subst (λ (z : Far). AreUnits 4096 (due_at z) (map (reply_unit config terms) (ItsHeader ∷ replies))) (sym l.0) (refl, replies_units config terms AwaitsOpen g replies a l.1)
  replies_units config terms r g (ItsOpen ∷ replies) a l =
      let x : Said = of_endpoint.open_said config (lesser config.channel_max 0) in
      subst (λ (z : Far). AreUnits 4096 (due_at z) (map (reply_unit config terms) (ItsOpen ∷ replies))) (sym l.0)
      ((short_frame x (omega (arith, open_most config (lesser config.channel_max 0) a.configured.most_name))).0, replies_units config terms AwaitsBegin g replies a l.1)
  replies_units config terms r g (ItsBegin ∷ replies) a l =
      subst (λ (z : Far). AreUnits 4096 (due_at z) (map (reply_unit config terms) (ItsBegin ∷ replies))) (sym l.0)
      ((short_frame (of_endpoint.begin_said 0 (begun_with config)) (omega (arith, begin_most 0 (begun_with config)))).0, replies_units config terms Goes g replies a l.1)
  replies_units config terms r g (ItsAttach ∷ replies) a l =
      subst (λ (z : Far). AreUnits 4096 (due_at z) (map (reply_unit config terms) (ItsAttach ∷ replies))) (sym l.0) (
        (short_frame (of_session.attach_said (bounds_for config terms.name).max_message_size (attaching_of config terms.name)) (attach_short config terms (bounds_for config terms.name).max_message_size a.short_name)).0,
        replies_units config terms Goes g replies a l.1,
      )
  replies_units config terms r g (States f ∷ replies) a l =
      subst (λ (z : Far). AreUnits 4096 (due_at z) (map (reply_unit config terms) (States f ∷ replies))) (sym l.0)
      ((short_frame (flow_speaks f) (flow_short f.of_link f.next f.window f.count f.credit f.drain)).0, replies_units config terms Goes g replies a l.1)
  replies_units config terms r g (Disposes id settled outcome ∷ replies) a l =
      subst (λ (z : Far). AreUnits 4096 (due_at z) (map (reply_unit config terms) (Disposes id settled outcome ∷ replies))) (sym l.0)
      ((short_frame (of_session.disposition_said id id settled outcome) (omega (arith, disposition_most id id settled outcome))).0, replies_units config terms Goes g replies a l.1)
