-- Numbers in octets, in either order.
use Rattle.std.proofs.Common.{◌≡◌, ℕ, List, drop, sym, ap, ◌∙◌}
use Rattle.byteorder.specs.Endian.{big_number, little_number}
use Rattle.pcap_io.specs.declared.order.Order.{Order}
use Rattle.pcap_io.specs.declared.order.Order.TheVariants.{Little, Big}
use Rattle.pcap_io.specs.Numbers.{number_in, half_at, word_at}

read_little : (size place read : ℕ) (order : Order) (octets number : List ℕ) →
    order ≡ Little → number ≡ drop place octets → read ≡ little_number size number → read ≡ number_in order size (drop place octets)
read_little size place read order octets number is_order is_number is_read =
    is_read ∙ ap (little_number size) is_number ∙ ap (λ (o : Order). number_in o size (drop place octets)) (sym is_order)

read_big : (size place read : ℕ) (order : Order) (octets number : List ℕ) →
    order ≡ Big → number ≡ drop place octets → read ≡ big_number size number → read ≡ number_in order size (drop place octets)
read_big size place read order octets number is_order is_number is_read =
    is_read ∙ ap (big_number size) is_number ∙ ap (λ (o : Order). number_in o size (drop place octets)) (sym is_order)

pub half_little : (place read : ℕ) (order : Order) (octets number : List ℕ) →
    order ≡ Little → number ≡ drop place octets → read ≡ little_number 2 number → read ≡ half_at order place octets
unfolding half_at
half_little place read order octets number is_order is_number is_read = read_little 2 place read order octets number is_order is_number is_read

pub half_big : (place read : ℕ) (order : Order) (octets number : List ℕ) →
    order ≡ Big → number ≡ drop place octets → read ≡ big_number 2 number → read ≡ half_at order place octets
unfolding half_at
half_big place read order octets number is_order is_number is_read = read_big 2 place read order octets number is_order is_number is_read

pub word_little : (place read : ℕ) (order : Order) (octets number : List ℕ) →
    order ≡ Little → number ≡ drop place octets → read ≡ little_number 4 number → read ≡ word_at order place octets
unfolding word_at
word_little place read order octets number is_order is_number is_read = read_little 4 place read order octets number is_order is_number is_read

pub word_big : (place read : ℕ) (order : Order) (octets number : List ℕ) →
    order ≡ Big → number ≡ drop place octets → read ≡ big_number 4 number → read ≡ word_at order place octets
unfolding word_at
word_big place read order octets number is_order is_number is_read = read_big 4 place read order octets number is_order is_number is_read
