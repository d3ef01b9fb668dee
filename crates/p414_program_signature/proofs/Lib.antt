mod Acyclic
